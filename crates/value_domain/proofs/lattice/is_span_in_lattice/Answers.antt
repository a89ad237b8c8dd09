use Rattle.std.proofs.Common.{◌∙◌, sym, ◌≡◌, true, false, arith, refl}
use Rattle.std.proofs.lemmas.Bool.{eqb-true, eq-eqb}
use Rattle.value_domain.proofs.RangeLaws.{any_value, span_value, value_span, span_count}
use Rattle.value_domain.proofs.lattice.is_span_in_lattice.Goals as goal

pub returns-then-span_len-most_words : goal.returns-then-span_len-most_words
returns-then-span_len-most_words c = (
  (λ t. absurd (let f : false ≡ true = t in cc)),
  (λ v. absurd (omega (arith, span_count c.args.b.now c.args.lo c.args.last c.args.step v, c.span_len.ensures, c.most_words-most_words.ensures.most_words))),
)

pub returns-then-lo-floor : goal.returns-then-lo-floor
returns-then-lo-floor c = (
  (λ t.
      let e = eqb-true _ _ t in
      span_value c.args.b.now c.args.lo c.args.last c.args.step c.most_words-most_words.ensures.limits (omega arith) c.ranges.last.fits (omega (arith, c.span_len.ensures, c.most_words-most_words.ensures.most_words))
      c.extent_of_span-e.ensures (c.if-lo-floor.true ∙ c.floor.ensures)
      (omega (arith, c.threshold_above.ensures.value, c.threshold_above.ensures.above, c.from.ensures, e))),
  (λ v.
      let e = value_span c.args.b.now c.args.lo c.args.last c.args.step v c.extent_of_span-e.ensures in
      eq-eqb _ _ (omega (arith, c.threshold_above.ensures.value, c.threshold_above.ensures.above, c.from.ensures, e.1))),
)

pub returns-else-lo-floor : goal.returns-else-lo-floor
returns-else-lo-floor c = (
  (λ t. absurd (c.if-lo-floor.false (eqb-true _ _ t))),
  (λ v.
      let e = value_span c.args.b.now c.args.lo c.args.last c.args.step v c.extent_of_span-e.ensures in
      eq-eqb _ _ (e.0 ∙ sym c.floor.ensures)),
)

pub returns-then-is_span_of_all_words : goal.returns-then-is_span_of_all_words
returns-then-is_span_of_all_words c =
    let all = c.is_span_of_all_words.ensures.0 c.if-is_span_of_all_words.true in
    rw (all.0, all.1, all.2) ((λ t. any_value c.args.b.now c.most_words-most_words.ensures.limits), (λ v. refl))
