-- The plan in a document, or the first refusal.
use Rattle.std.specs.Prelude.{◌≡◌, ℕ, ◌<◌, ◌==◌, List, ◌∷◌, codes, length, map, Bool, not, if◌then◌else◌, Option, Some, None, option_map, unwrap_or, Result, Ok, Err, IsUtf8, ◌≤◌, []}
use Rattle.std.specs.List.{list_any}
use Rattle.std.specs.Option.{option_map_or}
use Rattle.serde_json.specs.Data.{Data}
use Rattle.serde_json.specs.Find.{get}
use Rattle.serde_json.specs.Read.{read}
use Rattle.tcd_base.specs.declared.range.Range.{Range}
use Rattle.tcd_base.specs.declared.core_version.Core.{Core}
use Rattle.tcd_base.specs.declared.core_version.Core.TheVariants.{V13, V16}
use Rattle.tcd_plan.specs.Keys.{key_texts}
use Rattle.tcd_plan.specs.Objects.{plan_objects_of}
use Rattle.tcd_plan.specs.JsonValues.{json_elements_or_empty, is_object, is_json_string, json_number_of, json_number_or_zero, json_nested_number}
use Rattle.tcd_plan.specs.KeyFaults.{first_key_with_bad_value, first_missing_key, first_object_with_unknown_key}
use Rattle.tcd_plan.specs.ValueForms.{is_some_and}
use Rattle.tcd_plan.specs.PlanData.{PlanData, first_some, has_valid_areas, has_even_vector_bases, first_oversized_array, plan_range_overlap}
use Rattle.tcd_plan.specs.declared.plans.Device.{Device}
use Rattle.tcd_plan.specs.declared.plans.PlanErr.{PlanErr}
use Rattle.tcd_plan.specs.declared.plans.PlanErr.TheVariants.{NotJson, Missing, Unknown, BadValue, TooMany, BadCsa, BadVector, Overlap, NoMemory}
use Rattle.tcd_plan.specs.declared.key_table.KeyParent.TheVariants.{Rom, Ram, Devices}

-- what the reader of plans makes of an object of the document with `at` and `len`: a range
abbrev pub plan_range_of : Data → Range
plan_range_of o = record { at = json_number_or_zero (codes "at") o; len = json_number_or_zero (codes "len") o }

-- what the reader of plans makes of an object of the document with `at`, `len`, `lo` and `hi`: a
-- peripheral
abbrev pub plan_device_of : Data → Device
plan_device_of o = record { range = plan_range_of o; lo = json_number_or_zero (codes "lo") o; hi = json_number_or_zero (codes "hi") o }

-- what the reader of plans makes of an element of the document's `irqs`: an interrupt's priority
abbrev pub plan_irq_of : Data → ℕ
plan_irq_of q = unwrap_or (json_number_of q) 0

-- the version of the core in a plan's document; V13 if the key is absent
abbrev pub plan_core_of : Data → Core
plan_core_of d = if is_some_and (is_json_string (codes "1.6")) (get (codes "core") d) then V16 else V13

-- the words of A0, A1, A8 and A9 at the start, in a plan's document
abbrev pub plan_globals_of : Data → List ℕ
plan_globals_of d = map (λ name. json_nested_number (codes "globals") name d) (codes "a0" ∷ codes "a1" ∷ codes "a8" ∷ codes "a9" ∷ [])

-- the plan in a document that isn't refused
unfoldable pub unchecked_plan_of : Data → PlanData
unchecked_plan_of d = record {
  rom = map plan_range_of (plan_objects_of Rom d);
  ram = map plan_range_of (plan_objects_of Ram d);
  devices = map plan_device_of (plan_objects_of Devices d);
  csa_at = json_nested_number (codes "csa") (codes "at") d;
  areas = json_nested_number (codes "csa") (codes "areas") d;
  reserve = json_nested_number (codes "csa") (codes "reserve") d;
  sp = json_number_or_zero (codes "sp") d;
  isp = json_number_or_zero (codes "isp") d;
  biv = json_number_or_zero (codes "biv") d;
  btv = json_number_or_zero (codes "btv") d;
  irqs = map plan_irq_of (json_elements_or_empty (codes "irqs") d);
  sys = list_any (is_json_string (codes "sys")) (json_elements_or_empty (codes "traps") d);
  aln = list_any (is_json_string (codes "aln")) (json_elements_or_empty (codes "traps") d);
  start_ie = json_nested_number (codes "start") (codes "ie") d == 1;
  start_ccpn = json_nested_number (codes "start") (codes "ccpn") d;
  start_is = json_nested_number (codes "start") (codes "is") d == 1;
  globals = plan_globals_of d;
  core = plan_core_of d;
}

-- this refusal of the plan in a document, if it applies; it names no key
abbrev pub refusal_if : Bool → PlanErr → Option PlanErr
refusal_if b e = if b then Some e else None

-- the refusals of a plan's document in the order of their numbers, each None unless it applies
abbrev pub plan_refusals : Data → List (Option PlanErr)
plan_refusals d =
    refusal_if (not (is_object d)) NotJson ∷
    option_map Missing (first_missing_key d) ∷
    option_map Unknown (first_object_with_unknown_key d) ∷
    option_map BadValue (first_key_with_bad_value d) ∷
    option_map TooMany (first_oversized_array (unchecked_plan_of d)) ∷
    refusal_if (not (has_valid_areas (unchecked_plan_of d))) BadCsa ∷
    refusal_if (not (has_even_vector_bases (unchecked_plan_of d))) BadVector ∷
    plan_range_overlap (unchecked_plan_of d) ∷
    []

-- the first refusal of a plan's document, if there is one
unfoldable pub plan_refusal : Data → Option PlanErr
plan_refusal d = first_some (plan_refusals d)

-- the plan in a document, or the first refusal
abbrev pub plan_of : Data → Result PlanData PlanErr
plan_of d = option_map_or Err (plan_refusal d) (Ok (unchecked_plan_of d))

-- the bytes are the text of a document, as serde_json reads it, whose plan or first refusal is r
abbrev pub GivesPlan : List ℕ → Result PlanData PlanErr → Type 0
GivesPlan bytes r = (d : Data) × IsUtf8 bytes × (read bytes ≡ Some d) × (plan_of d ≡ r)

-- a result for a file's bytes: NotJson if they are no text of a JSON object, else the document's;
-- out of memory is always possible
abbrev pub IsPlanResult : List ℕ → Result PlanData PlanErr → Type 0
IsPlanResult bytes (Err NoMemory) = Unit {0}
IsPlanResult bytes (Err NotJson) = (d : Data) → IsUtf8 bytes → read bytes ≡ Some d → plan_of d ≡ Err NotJson
IsPlanResult bytes (Err (Missing key)) = GivesPlan bytes (Err (Missing key))
IsPlanResult bytes (Err (Unknown key)) = GivesPlan bytes (Err (Unknown key))
IsPlanResult bytes (Err (BadValue key)) = GivesPlan bytes (Err (BadValue key))
IsPlanResult bytes (Err (TooMany key)) = GivesPlan bytes (Err (TooMany key))
IsPlanResult bytes (Err BadCsa) = GivesPlan bytes (Err BadCsa)
IsPlanResult bytes (Err BadVector) = GivesPlan bytes (Err BadVector)
IsPlanResult bytes (Err (Overlap i j)) = GivesPlan bytes (Err (Overlap i j))
IsPlanResult bytes (Ok p) = GivesPlan bytes (Ok p)

-- a refusal by the reader of plans names no key, or a key that has a text to print
abbrev pub HasPrintedKey : PlanErr → Type 0
HasPrintedKey (Missing key) = key.0 < length key_texts
HasPrintedKey (Unknown key) = key.0 < length key_texts
HasPrintedKey (BadValue key) = key.0 < length key_texts
HasPrintedKey (TooMany key) = key.0 < length key_texts
HasPrintedKey _ = Unit {0}

-- in a plan's document, no array of ranges, peripherals or interrupts has too many elements, and
-- there are at most 4096 save areas
pub record HasShortPlanArrays (d : Data) : Type 0 where
  pub rom : length (plan_objects_of Rom d) ≤ 16
  pub ram : length (plan_objects_of Ram d) ≤ 16
  pub devices : length (plan_objects_of Devices d) ≤ 16
  pub irqs : length (json_elements_or_empty (codes "irqs") d) ≤ 32
  pub areas : json_nested_number (codes "csa") (codes "areas") d ≤ 4096
