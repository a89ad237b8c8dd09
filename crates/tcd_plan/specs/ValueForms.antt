-- The forms of the values of a plan's keys.
use Rattle.std.specs.Prelude.{ℕ, ◌+◌, ◌%◌, ◌^◌, ◌&&◌, ◌||◌, ◌==◌, List, ◌∷◌, codes, length, count_by, Bool, true, false, nat_lt, nat_le, Option, is_some, []}
use Rattle.std.specs.List.{list_all}
use Rattle.std.specs.Option.{option_map_or}
use Rattle.serde_json.specs.Data.{Data}
use Rattle.serde_json.specs.Find.{get}
use Rattle.tcd_plan.specs.JsonValues.{is_object, is_json_string, json_number_at, json_number_of, json_elements_at, json_number_or_zero}
use Rattle.tcd_plan.specs.declared.key_table.ValueForm.{ValueForm}
use Rattle.tcd_plan.specs.declared.key_table.ValueForm.TheVariants.{Ranges, Objects, Object, At, Len, Hi, Word, Byte, Truth, Irqs, Traps, CoreText}

-- there is a value, and it passes the test
abbrev pub is_some_and : {T : Type 0} → (T → Bool) → Option T → Bool
is_some_and test o = option_map_or test o false

-- the form of the value of a plan's key `irqs`: ascending numbers above `low`, up to 255
abbrev pub are_irqs_above : ℕ → List Data → Bool
are_irqs_above low [] = true
are_irqs_above low (d ∷ ds) = is_some_and (λ q. nat_lt low q && nat_lt q 256 && are_irqs_above q ds) (json_number_of d)

-- the text of a trap that a plan may state
abbrev pub is_trap_name : Data → Bool
is_trap_name d = is_json_string (codes "sys") d || is_json_string (codes "aln") d

-- the form of the value of a plan's key `traps`: `sys` and `aln`, each at most once
abbrev pub are_traps : List Data → Bool
are_traps ds = list_all is_trap_name ds && nat_le (count_by (is_json_string (codes "sys")) ds) 1 && nat_le (count_by (is_json_string (codes "aln")) ds) 1

-- the form of the value of a plan's key `len`: a multiple of 4, not 0, and with `at` at most 2^32
abbrev pub is_range_len : ℕ → ℕ → Bool
is_range_len at len = nat_lt 0 len && (len % 4 == 0) && nat_le (at + len) (2 ^ 32)

-- the form of the value of a plan's key `core`: `1.3` or `1.6`, or absent
abbrev pub is_core_version_or_absent : Option Data → Bool
is_core_version_or_absent o = option_map_or (λ d. is_json_string (codes "1.3") d || is_json_string (codes "1.6") d) o true

-- the value of a key in an object has the form
abbrev pub has_value_form : ValueForm → List ℕ → Data → Bool
has_value_form Ranges name o = is_some_and (λ ds. nat_lt 0 (length ds) && list_all is_object ds) (json_elements_at name o)
has_value_form Objects name o = is_some_and (list_all is_object) (json_elements_at name o)
has_value_form Object name o = is_some_and is_object (get name o)
has_value_form At name o = is_some_and (λ n. n % 4 == 0) (json_number_at name o)
has_value_form Len name o = is_some_and (is_range_len (json_number_or_zero (codes "at") o)) (json_number_at name o)
has_value_form Hi name o = is_some_and (λ n. nat_le (json_number_or_zero (codes "lo") o) n) (json_number_at name o)
has_value_form Word name o = is_some (json_number_at name o)
has_value_form Byte name o = is_some_and (λ n. nat_lt n 256) (json_number_at name o)
has_value_form Truth name o = is_some_and (λ n. nat_lt n 2) (json_number_at name o)
has_value_form Irqs name o = is_some_and (are_irqs_above 0) (json_elements_at name o)
has_value_form Traps name o = is_some_and are_traps (json_elements_at name o)
has_value_form CoreText name o = is_core_version_or_absent (get name o)
