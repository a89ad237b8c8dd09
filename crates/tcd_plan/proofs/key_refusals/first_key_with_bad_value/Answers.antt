use Rattle.std.proofs.Common.{◌∙◌, rules, tests}
use Rattle.std.specs.List.{list_any}
use Rattle.std.proofs.lemmas.Iterator.{YieldsList-from_slice}
use Rattle.std.proofs.lemmas.Iterator.Search.{find_from_yields_List}
use Rattle.serde_json.specs.View.{view}
use Rattle.tcd_plan.specs.KeyRows.{KeyRow, row_of}
use Rattle.tcd_plan.specs.Objects.{plan_objects_of}
use Rattle.tcd_plan.specs.KeyFaults.{is_key_value_bad, first_key_with_bad_value}
use Rattle.tcd_plan.specs.declared.key_table.Row.{Row}
use Rattle.tcd_plan.proofs.Finds.{key_found}
use Rattle.tcd_plan.proofs.key_refusals.first_key_with_bad_value.Goals as goal

pub returns : goal.returns
unfolding first_key_with_bad_value
returns c =
    let test = λ (r : KeyRow). list_any (is_key_value_bad r) (plan_objects_of r.parent (view c.args.value.now)) in
    let found = find_from_yields_List (λ (r : Row). test (row_of r)) _ _ c.find.result c.find.ensures.ran (YieldsList-from_slice c.key_table_rows.result.now cc) (λ x b q k. search (rules, tests)) in
    c.key_of_refused_row.ensures ∙ key_found test c.key_table_rows.result.now _ c.key_table_rows.ensures.rows found
