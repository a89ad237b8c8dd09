use Rattle.std.proofs.Common.{sym, ◌∙◌, rules, tests}
use Rattle.std.proofs.lemmas.Iterator.{YieldsList-from_slice}
use Rattle.std.proofs.lemmas.Iterator.Search.{all_from_yields_List}
use Rattle.std.proofs.lemmas.List.Folds.{list_all-map}
use Rattle.serde_json.specs.View.{view}
use Rattle.tcd_plan.specs.ValueForms.{is_trap_name}
use Rattle.tcd_plan.proofs.object_forms.are_trap_names.Goals as goal

pub returns : goal.returns
returns c =
    all_from_yields_List (λ v. is_trap_name (view v)) _ _ _ c.all.ensures.ran (YieldsList-from_slice c.args.places.now cc) (λ x b q k. search (rules, tests))
    ∙ sym (list_all-map is_trap_name view c.args.places.now)
