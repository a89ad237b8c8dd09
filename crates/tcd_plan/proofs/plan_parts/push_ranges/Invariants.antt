use Rattle.std.proofs.Common.{◌≡◌, ◌++◌, map, take}
use Rattle.serde_json.specs.View.{view}
use Rattle.tcd_plan.specs.PlanReader.{plan_range_of}
use Rattle.tcd_plan.proofs.plan_parts.push_ranges.Given as goal

abbrev pub invariant-loop-object : goal.invariant-loop-object
invariant-loop-object g l =
    l.ranges.items ≡ l.fn.ranges.items ++ map plan_range_of (map view (take l.object-index l.objects))
