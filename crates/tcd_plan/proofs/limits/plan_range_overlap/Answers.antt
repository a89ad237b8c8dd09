use Rattle.std.proofs.Common.{ap, ◌∙◌}
use Rattle.serde_json.specs.View.{view}
use Rattle.tcd_plan.specs.PlanData.{first_overlap_from, plan_range_overlap}
use Rattle.tcd_plan.proofs.Overlaps.{all_gathered}
use Rattle.tcd_plan.proofs.limits.plan_range_overlap.Goals as goal

pub returns : goal.returns
unfolding plan_range_overlap
returns c =
    let d = view c.args.value.now in
    let gathered = all_gathered d c.push_ranges.new.ranges.items c.push_ranges-2.new.ranges.items c.push_ranges-3.new.ranges.items c.push.new.self.items (cc (c.push_ranges.ensures, c.plan_objects_of.ensures, c.new-ranges.ensures)) (cc (c.push_ranges-2.ensures, c.plan_objects_of-2.ensures)) (cc (c.push_ranges-3.ensures, c.plan_objects_of-3.ensures)) (cc (c.push.ensures.items, c.areas_range.ensures)) in
    c.first_overlap.ensures ∙ ap (first_overlap_from 0) (c.as_slice.ensures.value ∙ gathered)
