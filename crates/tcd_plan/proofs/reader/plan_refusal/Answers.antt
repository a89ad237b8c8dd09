use Rattle.std.proofs.Common.{◌≡◌, None, true, sym, ◌∙◌}
use Rattle.serde_json.specs.View.{view}
use Rattle.tcd_plan.specs.PlanReader.{unchecked_plan_of}
use Rattle.tcd_plan.specs.PlanData.{has_valid_areas, first_oversized_array}
use Rattle.tcd_plan.proofs.Accepted.{few_arrays}
use Rattle.tcd_plan.proofs.reader.plan_refusal.Goals as goal

pub plan_range_overlap-requires : goal.plan_range_overlap-requires
plan_range_overlap-requires c =
    let d = view c.args.value.now in
    let many : first_oversized_array (unchecked_plan_of d) ≡ None = sym c.in_default-first_oversized_array.ensures in
    let areas : has_valid_areas (unchecked_plan_of d) ≡ true = sym c.has_valid_areas.ensures ∙ c.if-not-has_valid_areas.false in
    few_arrays d many areas
