-- Facts of the table of rows.
use Rattle.std.proofs.Common.{◌≡◌, ℕ, Bool, true, false, refl, subst}
use Rattle.std.specs.Prelude.{All, slice_get, Some}
use Rattle.std.proofs.lemmas.Option.{get_or_from_slice_get, slice_get_within}
use Rattle.std.specs.List.{list_all}
use Rattle.std.proofs.lemmas.Bool.{ltb-true, and_parts}
use Rattle.std.proofs.lemmas.List.Sums.{AllPass-from_list_all}
use Rattle.tc_isa.specs.Rows.{RowData, table_rows}
use Rattle.tc_isa.specs.Forms.{second_opcode_bound, field_bounds, is_32_bit_form, form_index}
use Rattle.tc_isa.specs.ValidRowFields.{IsRow, is_row, are_bools_equal, have_no_clashing_opcodes}

same_tested : (a b : Bool) → are_bools_equal a b ≡ true → a ≡ b
same_tested true true e = refl
same_tested true false e = cc
same_tested false true e = cc
same_tested false false e = refl

row_from : (r : RowData) → is_row r ≡ true → IsRow r
unfolding is_row
row_from r e =
    let z = and_parts _ _ e in
    let p = and_parts _ _ z.0 in
    let q = and_parts _ _ p.0 in
    let s = and_parts _ _ q.0 in
    let t = and_parts _ _ s.0 in
    let b1 = and_parts _ _ s.1 in
    let b2 = and_parts _ _ b1.0 in
    let b3 = and_parts _ _ b2.0 in
    let b4 = and_parts _ _ b3.0 in
    record {
      first = ltb-true _ _ t.0;
      second = ltb-true _ _ t.1;
      has_least = record {
        below = record { c = ltb-true _ _ b4.0; s1 = ltb-true _ _ b4.1; s2 = ltb-true _ _ b3.1; n = ltb-true _ _ b2.1; k = ltb-true _ _ b1.1 };
        zero = q.1;
        apart = p.1;
      };
      size = same_tested _ _ z.1;
    }

pub all_tested : list_all is_row table_rows ≡ true
unfolding is_row second_opcode_bound field_bounds is_32_bit_form
all_tested = refl

pub rows_are : All IsRow table_rows
rows_are = λ k d h. row_from _ (AllPass-from_list_all is_row table_rows all_tested k d h)

pub row_at : (place : ℕ) (r : RowData) → slice_get table_rows place ≡ Some r → IsRow r
row_at place r at = subst IsRow (get_or_from_slice_get table_rows place r r at) (rows_are place r (slice_get_within table_rows place r at))

pub rows_are_apart : have_no_clashing_opcodes table_rows ≡ true
unfolding form_index
rows_are_apart = refl
