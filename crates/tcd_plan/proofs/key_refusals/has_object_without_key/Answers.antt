use Rattle.std.proofs.Common.{sym, ap, ◌∙◌, rules, tests}
use Rattle.std.specs.List.{list_any}
use Rattle.std.proofs.lemmas.Iterator.{YieldsList-from_slice}
use Rattle.std.proofs.lemmas.Iterator.Search.{any_from_yields_List}
use Rattle.serde_json.specs.View.{view}
use Rattle.tcd_plan.specs.KeyRows.{row_of}
use Rattle.tcd_plan.specs.KeyFaults.{lacks_key}
use Rattle.tcd_plan.proofs.Finds.{list_any-map}
use Rattle.tcd_plan.proofs.key_refusals.has_object_without_key.Goals as goal

pub returns : goal.returns
returns c =
    any_from_yields_List (λ v. lacks_key (row_of c.args.row.now) (view v)) _ _ _ c.any.ensures.ran (YieldsList-from_slice c.plan_objects_of.result.now cc) (λ x b q k. search (rules, tests))
    ∙ sym (list_any-map (lacks_key (row_of c.args.row.now)) view c.plan_objects_of.result.now) ∙ ap (list_any (lacks_key (row_of c.args.row.now))) c.plan_objects_of.ensures
