use Rattle.std.proofs.Common.{◌≡◌, ◌≤◌, ◌*◌, ◌^◌, map, take, sum_by}
use Rattle.serde_json.specs.View.{view}
use Rattle.tcd_plan.specs.PlanReader.{plan_range_of}
use Rattle.tcd_plan.proofs.limits.total_len_of_ranges.Given as goal

abbrev pub invariant-loop-object : goal.invariant-loop-object
invariant-loop-object l = record {
  total : l.total ≡ sum_by (λ r. r.len) (map plan_range_of (map view (take l.object-index l.objects)));
  small : l.total ≤ 2 ^ 32 * l.object-index;
}
