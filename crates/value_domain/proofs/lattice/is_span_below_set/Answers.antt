use Rattle.std.proofs.Common.{◌∙◌, sym, ◌≡◌, true, false, refl, arith, ◌*◌, ◌^◌}
use Rattle.value_domain.proofs.RangeLaws.{within_range, range_has, unit_shift, range_step}
use Rattle.value_domain.proofs.lattice.is_span_below_set.Goals as goal

pub returns-then-not-is_word_of_set : goal.returns-then-not-is_word_of_set
returns-then-not-is_word_of_set c =
    let u = unit_shift c.args.step c.requires.step in
    let low = rw (u, c.from.ensures) at c.loop-k.auto.k in
    let high = rw (u, c.from-2.ensures) at c.loop-k-test.true in (
      (λ t. absurd (let f : false ≡ true = t in cc)),
      (λ there.
          let here = there (c.loop-k.k * 2 ^ c.args.step) (range_has c.args.lo c.args.last c.args.step c.loop-k.k low high) in
          sym c.if-not-is_word_of_set.true ∙ c.is_word_of_set.ensures.1 (rw u here)),
    )

pub loop-k-preserved : goal.loop-k-preserved
loop-k-preserved c = λ j low high. range_step c.args.words.now _ _ c.loop-k.k j c.loop-k.invariant (c.is_word_of_set.ensures.0 c.if-not-is_word_of_set.false) low high

pub returns : goal.returns
returns c =
    let u = unit_shift c.args.step c.requires.step in
    let inv = rw (u, c.from.ensures) at c.loop-k.invariant in
    let end = rw (u, c.from-2.ensures) at c.loop-k-test.false in
    ((λ t. within_range c.args.lo c.args.last c.args.step c.args.words.now (λ j low high. inv j low (omega arith))), (λ there. refl))
