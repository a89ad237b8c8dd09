use Rattle.std.proofs.Common.{sym, ap, ◌∙◌, rules, tests}
use Rattle.std.specs.List.{list_any}
use Rattle.std.proofs.lemmas.Iterator.{YieldsList-from_slice}
use Rattle.std.proofs.lemmas.Iterator.Search.{any_from_yields_List}
use Rattle.tcd_plan.specs.KeyRows.{row_of, is_row_of_key}
use Rattle.tcd_plan.specs.declared.key_table.Row.{Row}
use Rattle.tcd_plan.proofs.Finds.{list_any-map}
use Rattle.tcd_plan.proofs.key_refusals.is_known_key.Goals as goal

pub returns : goal.returns
returns c =
    let test = is_row_of_key c.args.parent c.args.name.now in
    any_from_yields_List (λ (r : Row). test (row_of r)) _ _ _ c.any.ensures.ran (YieldsList-from_slice c.key_table_rows.result.now cc) (λ x b q k. search (rules, tests))
    ∙ sym (list_any-map test row_of c.key_table_rows.result.now) ∙ ap (list_any test) c.key_table_rows.ensures.rows
