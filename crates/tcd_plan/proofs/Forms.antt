-- The values of a document in which no value is bad.
use Rattle.std.proofs.Common.{◌≡◌, ℕ, ◌<◌, true, false, [], ◌∷◌, codes, length, get_or, None, refl, subst, lit<}
use Rattle.std.specs.List.{list_all, list_any}
use Rattle.serde_json.specs.Data.{Data}
use Rattle.tcd_plan.specs.KeyRows.{KeyRow, key_rows, key_row}
use Rattle.tcd_plan.specs.Objects.{plan_objects_of}
use Rattle.tcd_plan.specs.KeyFaults.{is_key_value_bad, first_key_with_bad_value}
use Rattle.tcd_plan.specs.ValueForms.{has_value_form}
use Rattle.tcd_plan.specs.declared.key_table.ValueForm.TheVariants.{Ranges, Object, At, Len, Hi, Word, Byte, Irqs}
use Rattle.tcd_plan.specs.declared.key_table.KeyParent.TheVariants.{Root, Rom, Ram, Devices, Start}
use Rattle.tcd_plan.proofs.Small.{none_fails, not_found, option_map_none}

-- the value of a row's key has its form in each object
form_at : (d : Data) → first_key_with_bad_value d ≡ None → (i : ℕ) → i < length key_rows → (r : KeyRow) → get_or key_rows i (key_row 0 Root [] Word) ≡ r → list_all (has_value_form r.form r.name) (plan_objects_of r.parent d) ≡ true
unfolding first_key_with_bad_value
form_at d e i within r is =
    let fails = not_found (λ s. list_any (is_key_value_bad s) (plan_objects_of s.parent d)) key_rows i (key_row 0 Root [] Word) (option_map_none _ _ e) within in
    none_fails (has_value_form r.form r.name) (plan_objects_of r.parent d) (subst (λ s. list_any (is_key_value_bad s) (plan_objects_of s.parent d) ≡ false) is fails)

-- form_at, for one row of the list that is written out
at_row : (d : Data) → first_key_with_bad_value d ≡ None → (i : ℕ) → i < 31 → (r : KeyRow) → get_or key_rows i (key_row 0 Root [] Word) ≡ r → list_all (has_value_form r.form r.name) (plan_objects_of r.parent d) ≡ true
unfolding key_rows
at_row d e i within r is = form_at d e i within r is

pub rom_form : (d : Data) → first_key_with_bad_value d ≡ None → list_all (has_value_form Ranges (codes "rom")) (d ∷ []) ≡ true
unfolding key_rows
rom_form d e = at_row d e 0 (lit< tt) (key_row 1 Root (codes "rom") Ranges) refl

pub rom_at : (d : Data) → first_key_with_bad_value d ≡ None → list_all (has_value_form At (codes "at")) (plan_objects_of Rom d) ≡ true
unfolding key_rows
rom_at d e = at_row d e 1 (lit< tt) (key_row 2 Rom (codes "at") At) refl

pub rom_len : (d : Data) → first_key_with_bad_value d ≡ None → list_all (has_value_form Len (codes "len")) (plan_objects_of Rom d) ≡ true
unfolding key_rows
rom_len d e = at_row d e 2 (lit< tt) (key_row 3 Rom (codes "len") Len) refl

pub ram_at : (d : Data) → first_key_with_bad_value d ≡ None → list_all (has_value_form At (codes "at")) (plan_objects_of Ram d) ≡ true
unfolding key_rows
ram_at d e = at_row d e 4 (lit< tt) (key_row 5 Ram (codes "at") At) refl

pub ram_len : (d : Data) → first_key_with_bad_value d ≡ None → list_all (has_value_form Len (codes "len")) (plan_objects_of Ram d) ≡ true
unfolding key_rows
ram_len d e = at_row d e 5 (lit< tt) (key_row 6 Ram (codes "len") Len) refl

pub devices_at : (d : Data) → first_key_with_bad_value d ≡ None → list_all (has_value_form At (codes "at")) (plan_objects_of Devices d) ≡ true
unfolding key_rows
devices_at d e = at_row d e 7 (lit< tt) (key_row 8 Devices (codes "at") At) refl

pub devices_len : (d : Data) → first_key_with_bad_value d ≡ None → list_all (has_value_form Len (codes "len")) (plan_objects_of Devices d) ≡ true
unfolding key_rows
devices_len d e = at_row d e 8 (lit< tt) (key_row 9 Devices (codes "len") Len) refl

pub devices_hi : (d : Data) → first_key_with_bad_value d ≡ None → list_all (has_value_form Hi (codes "hi")) (plan_objects_of Devices d) ≡ true
unfolding key_rows
devices_hi d e = at_row d e 10 (lit< tt) (key_row 11 Devices (codes "hi") Hi) refl

pub irqs_form : (d : Data) → first_key_with_bad_value d ≡ None → list_all (has_value_form Irqs (codes "irqs")) (d ∷ []) ≡ true
unfolding key_rows
irqs_form d e = at_row d e 19 (lit< tt) (key_row 20 Root (codes "irqs") Irqs) refl

pub start_form : (d : Data) → first_key_with_bad_value d ≡ None → list_all (has_value_form Object (codes "start")) (d ∷ []) ≡ true
unfolding key_rows
start_form d e = at_row d e 21 (lit< tt) (key_row 22 Root (codes "start") Object) refl

pub start_ccpn : (d : Data) → first_key_with_bad_value d ≡ None → list_all (has_value_form Byte (codes "ccpn")) (plan_objects_of Start d) ≡ true
unfolding key_rows
start_ccpn d e = at_row d e 23 (lit< tt) (key_row 24 Start (codes "ccpn") Byte) refl
