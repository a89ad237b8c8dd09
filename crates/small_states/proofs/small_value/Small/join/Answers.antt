use Rattle.std.proofs.Common.{◌∙◌, sym}
use Rattle.std.proofs.lemmas.Result.{IfOk-weaker}
use Rattle.small_states.proofs.SameValues.{join_held, join_same}
use Rattle.small_states.proofs.small_value.Small.join.Goals as goal

pub returns-then-stands_for : goal.returns-then-stands_for
returns-then-stands_for c =
    IfOk-weaker c.copy.result _ _ (λ s e. e ∙ sym (c.stands_for.ensures c.if-stands_for.true) ∙ join_same c.args.b.now c.args.self.now c.args.v.now (c.stands_for.ensures c.if-stands_for.true) c.requires.own) c.copy.ensures

pub returns-then-has_member : goal.returns-then-has_member
returns-then-has_member c =
    IfOk-weaker c.copy-then-has_member.result _ _
    (λ s e. e ∙ join_held c.args.b.now c.args.self.now c.args.v.now c.in-Some.x (rw c.in-Some.is at c.singleton_word.ensures) (c.has_member.ensures.0 c.if-has_member.true) c.requires.own) c.copy-then-has_member.ensures
