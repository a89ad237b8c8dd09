use Rattle.std.proofs.Common.{◌≡◌, drop}
use Rattle.tcd_plan.specs.PlanData.{first_overlap_from}
use Rattle.tcd_plan.proofs.limits.first_overlap.Given as goal

abbrev pub invariant-loop-i : goal.invariant-loop-i
invariant-loop-i l = first_overlap_from 0 l.ranges ≡ first_overlap_from l.i (drop l.i l.ranges)
