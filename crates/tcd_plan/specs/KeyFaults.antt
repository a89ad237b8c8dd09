-- The first key of a document that is missing, unknown, or has a bad value.
use Rattle.std.specs.Prelude.{ℕ, ◌&&◌, List, Bool, not, is_none, Option, option_map, true, false}
use Rattle.std.specs.List.{list_all, list_any, find}
use Rattle.serde_json.specs.Data.{Data}
use Rattle.serde_json.specs.Find.{get}
use Rattle.tcd_plan.specs.KeyRows.{KeyRow, key_rows, parent_key, key_parents, is_row_of_key}
use Rattle.tcd_plan.specs.JsonValues.{json_object_keys}
use Rattle.tcd_plan.specs.declared.key_table.KeyParent.{KeyParent}
use Rattle.tcd_plan.specs.ValueForms.{has_value_form}
use Rattle.tcd_plan.specs.Objects.{plan_objects_of}
use Rattle.tcd_plan.specs.declared.plans.PlanKey.{PlanKey}
use Rattle.tcd_plan.specs.declared.key_table.ValueForm.{ValueForm}
use Rattle.tcd_plan.specs.declared.key_table.ValueForm.TheVariants.{CoreText}

-- a key whose value has this form is not missing if it is absent: only `core`
abbrev pub may_key_be_absent : ValueForm → Bool
may_key_be_absent CoreText = true
may_key_be_absent _ = false

-- an object of a plan's document lacks the key of this row, and the key may not be absent
abbrev pub lacks_key : KeyRow → Data → Bool
lacks_key r o = not (may_key_be_absent r.form) && is_none (get r.name o)

-- the value of a key in an object doesn't have its form
abbrev pub is_key_value_bad : KeyRow → Data → Bool
is_key_value_bad r o = not (has_value_form r.form r.name o)

-- the table of keys has a key of this name for a parent, so it isn't refused as unknown
abbrev pub is_known_key : KeyParent → List ℕ → Bool
is_known_key h name = list_any (is_row_of_key h name) key_rows

-- an object has a key that the table doesn't have for its parent
abbrev pub has_unknown_key : KeyParent → Data → Bool
has_unknown_key h o = not (list_all (is_known_key h) (json_object_keys o))

-- the key of a plan with this number, as a refusal names it
abbrev pub plan_key_of : ℕ → PlanKey
plan_key_of key = record { 0 = key }

-- the key of the first row of the table for which an object that the key is in meets the test
abbrev pub first_key_where : (KeyRow → Data → Bool) → Data → Option PlanKey
first_key_where test d = option_map (λ r. plan_key_of r.key) (find (λ r. list_any (test r) (plan_objects_of r.parent d)) key_rows)

-- the first key that an object lacks
unfoldable pub first_missing_key : Data → Option PlanKey
first_missing_key d = first_key_where lacks_key d

-- the key of the first object, or array of objects, with a key that the table doesn't have for it
unfoldable pub first_object_with_unknown_key : Data → Option PlanKey
first_object_with_unknown_key d = option_map (λ h. plan_key_of (parent_key h)) (find (λ h. list_any (has_unknown_key h) (plan_objects_of h d)) key_parents)

-- the first key of the table whose value in an object of the document doesn't have its form
unfoldable pub first_key_with_bad_value : Data → Option PlanKey
first_key_with_bad_value d = first_key_where is_key_value_bad d
