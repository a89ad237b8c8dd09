use Rattle.std.proofs.Common.{sym, ◌∙◌, rules, tests}
use Rattle.std.proofs.lemmas.Iterator.{YieldsList-from_slice}
use Rattle.std.proofs.lemmas.Iterator.Search.{any_from_yields_List}
use Rattle.serde_json.specs.View.{view}
use Rattle.tcd_plan.specs.JsonValues.{is_json_string}
use Rattle.tcd_plan.proofs.Finds.{list_any-map}
use Rattle.tcd_plan.proofs.json_values.has_json_string.Goals as goal

pub returns : goal.returns
returns c =
    any_from_yields_List (λ v. is_json_string c.args.text.now (view v)) _ _ _ c.any.ensures.ran (YieldsList-from_slice c.args.places.now cc) (λ x b q k. search (rules, tests))
    ∙ sym (list_any-map (is_json_string c.args.text.now) view c.args.places.now)
