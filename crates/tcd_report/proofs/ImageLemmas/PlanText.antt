-- Reading the text of the plan gives the plan.
use Rattle.std.proofs.Common.{◌≡◌, Some, Ok, refl}
use Rattle.std.specs.Prelude.{IsUtf8, unwrap_or}
use Rattle.serde_json.specs.Data.{Data, null}
use Rattle.serde_json.specs.Read.{read}
use Rattle.serde_json.proofs.OnLiterals.{serde_json_on_literals}
use Rattle.tcd_plan.specs.KeyRows.{key_rows}
use Rattle.tcd_plan.specs.PlanReader.{GivesPlan, plan_of, unchecked_plan_of, plan_refusal}
use Rattle.tcd_plan.specs.PlanData.{first_oversized_array, has_valid_areas, has_even_vector_bases, plan_range_overlap}
use Rattle.tcd_plan.specs.KeyFaults.{first_missing_key, first_object_with_unknown_key, first_key_with_bad_value}
use Rattle.tcd_report.specs.Generated.Planned.{generated_plan, generated_plan_text}

document : Data
document = unwrap_or (read generated_plan_text) null

read_is : read generated_plan_text ≡ Some document
unfolding document serde_json_on_literals
read_is = refl

plan_is : plan_of document ≡ Ok generated_plan
unfolding document serde_json_on_literals key_rows first_missing_key first_object_with_unknown_key first_key_with_bad_value unchecked_plan_of first_oversized_array has_valid_areas has_even_vector_bases plan_range_overlap plan_refusal
plan_is = refl

pub text_tells : IsUtf8 generated_plan_text → GivesPlan generated_plan_text (Ok generated_plan)
text_tells u = (document, u, read_is, plan_is)
