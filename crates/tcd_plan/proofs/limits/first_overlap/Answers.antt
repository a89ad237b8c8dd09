use Rattle.std.proofs.Common.{sym, ◌∙◌}
use Rattle.tcd_plan.proofs.Overlaps.{overlap_step}
use Rattle.tcd_plan.proofs.limits.first_overlap.Goals as goal

pub returns-in-Some : goal.returns-in-Some
returns-in-Some c =
    sym (c.loop-i.invariant ∙ overlap_step c.args.ranges.now c.loop-i.i _ _ c.loop-i-test.true c.in-Some.ensures.value)

pub loop-i-preserved : goal.loop-i-preserved
loop-i-preserved c =
    c.loop-i.invariant ∙ overlap_step c.args.ranges.now c.loop-i.i _ _ c.loop-i-test.true c.in_default.ensures.value
