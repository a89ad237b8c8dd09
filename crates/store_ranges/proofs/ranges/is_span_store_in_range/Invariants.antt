use Rattle.std.proofs.Common.{◌+◌, ◌-◌}
use Rattle.store_ranges.proofs.StoreLaws.{Walked}
use Rattle.store_ranges.proofs.ranges.is_span_store_in_range.Given as goal

abbrev pub invariant-loop-x : goal.invariant-loop-x
invariant-loop-x l = Walked l.plan l.least l.last l.step l.size l.x

abbrev pub decreases-loop-x : goal.decreases-loop-x
decreases-loop-x l = (l.last + 1) - l.x
