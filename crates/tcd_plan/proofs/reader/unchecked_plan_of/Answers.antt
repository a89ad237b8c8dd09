use Rattle.std.proofs.Common.{◌≡◌, ◌<◌, ◌^◌, List, None, All, rules, sym, subst}
use Rattle.serde_json.specs.Data.{Data}
use Rattle.serde_json.specs.View.{view}
use Rattle.tcd_plan.specs.PlanData.{IsPlan, PlanData}
use Rattle.tcd_plan.specs.PlanReader.{HasShortPlanArrays, plan_irq_of, plan_refusal, unchecked_plan_of}
use Rattle.tcd_plan.proofs.Accepted.{accepted, few_arrays}
use Rattle.tcd_plan.proofs.Pieces.{irqs_small}
use Rattle.tcd_plan.proofs.TellsPlan.{ascending, ccpn-lt, tells_plan}
use Rattle.tcd_plan.proofs.ViewLemmas.{length-seen}
use Rattle.tcd_plan.proofs.reader.unchecked_plan_of.Goals as goal

few_in : (d : Data) → plan_refusal d ≡ None → HasShortPlanArrays d
few_in d e = few_arrays d (accepted d e).too_many (accepted d e).areas

is_plan_in : (d : Data) (p : PlanData) → p ≡ unchecked_plan_of d → plan_refusal d ≡ None → IsPlan p
is_plan_in d p same e = subst (λ (q : PlanData). IsPlan q) (sym same) (tells_plan d e)

pub plan_ranges_of-requires : goal.plan_ranges_of-requires
plan_ranges_of-requires c = length-seen _ _ 16 c.plan_objects_of.ensures (few_in (view c.args.value.now) c.requires).rom

pub plan_ranges_of-requires-2 : goal.plan_ranges_of-requires-2
plan_ranges_of-requires-2 c = length-seen _ _ 16 c.plan_objects_of-2.ensures (few_in (view c.args.value.now) c.requires).ram

pub plan_devices_of-requires : goal.plan_devices_of-requires
plan_devices_of-requires c = length-seen _ _ 16 c.plan_objects_of-3.ensures (few_in (view c.args.value.now) c.requires).devices

pub plan_irqs_of-requires-clause-few : goal.plan_irqs_of-requires-clause-few
plan_irqs_of-requires-clause-few c =
    length-seen _ _ 32 c.json_elements_or_empty.ensures (few_in (view c.args.value.now) c.requires).irqs

pub plan_irqs_of-requires-clause-bytes : goal.plan_irqs_of-requires-clause-bytes
plan_irqs_of-requires-clause-bytes c =
    let d = view c.args.value.now in
    let small = irqs_small 0 _ (ascending d (accepted d c.requires).bad_value) in
    subst (λ (ds : List Data). All (λ q. plan_irq_of q < 2 ^ 8) ds) (sym c.json_elements_or_empty.ensures) small

pub json_nested_byte-requires : goal.json_nested_byte-requires
json_nested_byte-requires c =
    let d = view c.args.value.now in
    ccpn-lt d (accepted d c.requires).bad_value

pub invariant_of-result : goal.invariant_of-result
unfolding unchecked_plan_of
invariant_of-result c =
    let d = view c.args.value.now in
    is_plan_in d _ (search rules) c.requires
