use Rattle.std.proofs.Common.{arith}
use Rattle.std.proofs.lemmas.Bool.{eqb-true, eq-eqb, ltb-true}
use Rattle.value_domain.proofs.Places.{not_among, among_here, reached_is}
use Rattle.value_domain.proofs.values.is_word_of_set.Goals as goal

pub returns-then-at-words : goal.returns-then-at-words
returns-then-at-words c = (
  (λ t. among_here c.args.words.now c.count_words_below-at.result c.args.x c.if-at-words.true (eqb-true _ _ t)),
  (λ i.
      eq-eqb _ _ (
      reached_is c.args.words.now c.count_words_below-at.result c.args.x c.requires c.count_words_below-at.ensures.before (c.count_words_below-at.ensures.after c.count_words_below-at.result (omega arith)) i)),
)

pub returns-else-at-words : goal.returns-else-at-words
returns-else-at-words c = (
  (λ t. absurd (let l = ltb-true _ _ t in omega (arith, c.if-at-words.false))),
  (λ i.
      absurd (not_among c.args.words.now c.count_words_below-at.result c.args.x c.requires c.count_words_below-at.ensures.before
      (c.count_words_below-at.ensures.after c.count_words_below-at.result (omega arith)) (λ h e. omega (arith, c.if-at-words.false)) i)),
)
