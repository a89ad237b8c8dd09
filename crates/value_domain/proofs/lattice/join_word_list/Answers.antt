use Rattle.std.proofs.Common.{◌∙◌, arith}
use Rattle.value_domain.proofs.RangeLaws.{words_none, words_more}
use Rattle.value_domain.proofs.PutLaws.{words_rest, words_value}
use Rattle.value_domain.proofs.lattice.join_word_list.Goals as goal

pub loop-i-init : goal.loop-i-init
loop-i-init c = (omega arith, words_none c.args.b.now c.args.v.now c.args.words.now c.requires, c.requires)

pub loop-i-preserved : goal.loop-i-preserved
loop-i-preserved c = (
  omega arith,
  c.join_word.ensures.cover ∙ words_more c.args.b.now c.args.v.now c.loop-i.v c.args.words.now c.loop-i.i c.requires.well c.loop-i-test.true c.loop-i.invariant.1,
  c.join_word.ensures.value,
)

pub returns-then-i-words-clause-cover : goal.returns-then-i-words-clause-cover
returns-then-i-words-clause-cover c = c.widen_span.ensures ∙ words_rest c.args.b.now c.args.v.now c.loop-i.v c.args.words.now c.loop-i.i c.requires.well c.loop-i.invariant.1

pub returns-then-i-words-clause-value : goal.returns-then-i-words-clause-value
returns-then-i-words-clause-value c =
    let e = c.widen_span.ensures ∙ words_rest c.args.b.now c.args.v.now c.loop-i.v c.args.words.now c.loop-i.i c.requires.well c.loop-i.invariant.1 in
    rw e (words_value c.args.b.now c.args.v.now c.args.words.now c.most_words-most_words.ensures.limits c.requires (λ k. (c.type_inv.words k).fits))
