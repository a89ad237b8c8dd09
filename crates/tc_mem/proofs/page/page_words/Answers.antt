use Rattle.std.proofs.Common.{◌≢◌, ◌<◌, length, arith, below_more, get_or-set_other, get_or-set_same, length-set, ◌∙◌}
use Rattle.tc_mem.proofs.page.page_words.Goals as goal

pub loop-i-preserved : goal.loop-i-preserved
loop-i-preserved c =
    let lt : c.loop-i.i < length c.loop-i.words = omega (arith, c.loop-i.invariant.0) in (
      length-set _ _ _ ∙ c.loop-i.invariant.0,
      below_more _ _
          (λ k h. let other : k ≢ c.loop-i.i = omega arith in get_or-set_other _ _ k _ 0 other ∙ c.loop-i.invariant.1 k h)
          (get_or-set_same _ _ _ 0 lt ∙ c.page_word.ensures),
    )
