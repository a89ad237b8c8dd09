use Rattle.std.proofs.Common.{ap, ◌∙◌, rules, tests}
use Rattle.std.specs.List.{find, list_any}
use Rattle.std.proofs.lemmas.Iterator.{YieldsList-from_slice}
use Rattle.std.proofs.lemmas.Iterator.Search.{find_from_yields_List}
use Rattle.serde_json.specs.View.{view}
use Rattle.tcd_plan.specs.Objects.{plan_objects_of}
use Rattle.tcd_plan.specs.KeyFaults.{has_unknown_key, first_object_with_unknown_key}
use Rattle.tcd_plan.specs.declared.key_table.KeyParent.{KeyParent}
use Rattle.tcd_plan.proofs.Finds.{holder_found}
use Rattle.tcd_plan.proofs.key_refusals.first_object_with_unknown_key.Goals as goal

pub returns : goal.returns
unfolding first_object_with_unknown_key
returns c =
    let test = λ (h : KeyParent). list_any (has_unknown_key h) (plan_objects_of h (view c.args.value.now)) in
    let found = find_from_yields_List test _ _ c.find.result c.find.ensures.ran (YieldsList-from_slice c.key_parents.result.now cc) (λ x b q k. search (rules, tests)) in
    c.key_of_parent.ensures ∙ holder_found test _ (found ∙ ap (find test) c.key_parents.ensures)
