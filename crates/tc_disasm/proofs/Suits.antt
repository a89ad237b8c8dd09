-- Each row's form has the fields that the row's wants need.
use Rattle.std.proofs.Common.{◌≡◌, ◌%◌, ◌^◌, ◌==◌, ◌&&◌, ℕ, zero, suc, Bool, true, false, cond, List, [], ◌∷◌, Some, refl, ap, sym, ◌∙◌}
use Rattle.std.proofs.lemmas.Bool.{and_parts}
use Rattle.std.specs.Prelude.{slice_get, nat_le}
use Rattle.std.specs.List.{list_all}
use Rattle.tc_isa.specs.Rows.{RowData, table_rows}
use Rattle.tc_isa.specs.declared.table.Form.{Form}
use Rattle.tc_isa.specs.Forms.{field_bounds, form_index}
use Rattle.tc_stmt.specs.declared.want.Want.{Want}
use Rattle.tc_stmt.specs.declared.want.Want.TheVariants.{Reg, A10, Number, Target, Absolute, Memory}
use Rattle.tc_stmt.specs.Wants.{wants_of, want_of}
use Rattle.tc_stmt.specs.RowFields.{field_of}
use Rattle.tc_disasm.proofs.Decimals.{some_is}

-- an even bound of at most 24 bits
abbrev pub is_bound : ℕ → Bool
is_bound b = (b % 2 == 0) && nat_le b (2 ^ 24)

-- the form has a field for it: of four bits for a register, even for a number
unfoldable pub suits : Form → Want → Bool
suits form (Reg bank field) = nat_le (field_of field (field_bounds form)) 16
suits form A10 = true
suits form (Number signed field) = is_bound (field_of field (field_bounds form))
suits form Target = is_bound (field_bounds form).k
suits form Absolute = cond (form_index form == 8) ((field_bounds form).k == 2 ^ 18) ((field_bounds form).k == 2 ^ 24)
suits form (Memory plus true) = nat_le (field_bounds form).s2 16 && is_bound (field_bounds form).k
suits form (Memory plus false) = nat_le (field_bounds form).s2 16

abbrev all_suit : RowData → Bool
all_suit r = list_all (suits r.form) (wants_of r)

rows_suit : list_all all_suit table_rows ≡ true
unfolding wants_of want_of suits field_bounds form_index field_of
rows_suit = refl

suit_at : (rows : List RowData) (k : ℕ) (r : RowData) → list_all all_suit rows ≡ true → slice_get rows k ≡ Some r → all_suit r ≡ true
suit_at [] k r e at = cc
suit_at (x ∷ xs) zero r e at = ap all_suit (sym (some_is x r at)) ∙ (and_parts (all_suit x) (list_all all_suit xs) e).0
suit_at (x ∷ xs) (suc k) r e at = suit_at xs k r (and_parts (all_suit x) (list_all all_suit xs) e).1 at

-- of each row that is listed
pub wants_suit : (k : ℕ) (r : RowData) → slice_get table_rows k ≡ Some r → list_all (suits r.form) (wants_of r) ≡ true
wants_suit k r at = suit_at table_rows k r rows_suit at
