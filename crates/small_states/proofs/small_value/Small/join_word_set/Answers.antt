use Rattle.std.proofs.Common.{◌∙◌, ◌∷◌, [], ap, sym, arith}
use Rattle.std.proofs.lemmas.Result.{IfOk-weaker}
use Rattle.small_states.specs.SmallValues.{whole_value}
use Rattle.small_states.proofs.HeldWords.{all_held, join_others, join_rest, join_words, set_of}
use Rattle.small_states.proofs.small_value.Small.join_word_set.Goals as goal

pub returns-in-One : goal.returns-in-One
returns-in-One c =
    let own = sym c.self.view_is ∙ ap whole_value c.in-One.is in
    IfOk-weaker c.from_word_lists.result _ _ (λ s e. e ∙ join_others c.args.b.now c.args.self.now c.args.v.now c.args.words.now (c.in-One.x ∷ []) own c.requires.words) c.from_word_lists.ensures

pub returns-then-n-words : goal.returns-then-n-words
returns-then-n-words c =
    let own = sym c.self.view_is ∙ ap whole_value c.in-Many.is ∙ sym c.as_ref.ensures ∙ set_of c.as_ref.result.now c.in-Some.held.now c.in-Some.ensures in
    let all = all_held c.in-Some.held.now c.args.words.now c.count_leading_members-n.result c.count_leading_members-n.ensures.within c.count_leading_members-n.ensures.held (let e = c.if-n-words.true in omega (arith, e)) in
    IfOk-weaker c.copy_out_of_line.result _ _ (λ s e. e ∙ join_words c.args.b.now c.args.self.now c.args.v.now c.in-Some.held.now c.args.words.now own c.requires.words all c.requires.own) c.copy_out_of_line.ensures

pub returns-then-held-missing : goal.returns-then-held-missing
returns-then-held-missing c =
    let own = sym c.self.view_is ∙ ap whole_value c.in-Many.is ∙ sym c.as_ref.ensures ∙ set_of c.as_ref.result.now c.in-Some.held.now c.in-Some.ensures in
    IfOk-weaker c.from_word_lists-then-held-missing.result _ _
    (λ s e. e ∙ join_others c.args.b.now c.args.self.now c.args.v.now c.args.words.now c.in-Some.held.now own c.requires.words) c.from_word_lists-then-held-missing.ensures

pub returns : goal.returns
returns c =
    let own = sym c.self.view_is ∙ ap whole_value c.in-Many.is ∙ sym c.as_ref.ensures ∙ set_of c.as_ref.result.now c.in-Some.held.now c.in-Some.ensures in
    IfOk-weaker c.with_words-2.result _ _
    (λ s e. e ∙ join_rest c.args.b.now c.args.self.now c.args.v.now c.in-Some.held.now c.args.words.now c.count_leading_members-n.result own c.requires.words c.count_leading_members-n.ensures.held)
    c.with_words-2.ensures
