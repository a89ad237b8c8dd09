-- Valid rows: the fields that a row has, the fields that fit it, and that no two rows clash.
use Rattle.std.specs.Prelude.{◌≡◌, ◌<◌, ◌==◌, ◌&&◌, ◌||◌, not, ℕ, List, ◌∷◌, Bool, true, false, nat_lt, if◌then◌else◌, []}
use Rattle.std.specs.List.{list_any}
use Rattle.tc_isa.specs.Rows.{RowData, is_32_bit_row}
use Rattle.tc_isa.specs.declared.fields.Fields.{Fields}
use Rattle.tc_isa.specs.declared.fields.Uses.{Uses}
use Rattle.tc_isa.specs.Forms.{field_bounds, second_opcode_bound, fields, is_32_bit_form, form_index}
use Rattle.tc_isa.specs.InBounds.{AreFieldsBelow, are_fields_below}

-- these two characters stand side by side in the text of a row's operands: s1 or s2 for the field
-- of that name, or k4 for a constant, which is in s2
abbrev pub has_operand_pair : ℕ → ℕ → List ℕ → Bool
has_operand_pair a b [] = false
has_operand_pair a b (x ∷ []) = false
has_operand_pair a b (x ∷ y ∷ rest) = x == a && y == b || has_operand_pair a b (y ∷ rest)

-- this letter stands in the text of a row's operands: c, n or k for the field of that name, T or U
-- for a target, which is in k
abbrev pub has_operand_byte : ℕ → List ℕ → Bool
has_operand_byte a xs = list_any (λ x. x == a) xs

-- which fields a row has, by letters in the text of its operands: c; s1; s2 or k4; n; k, T or U
abbrev pub used_fields : RowData → Uses
used_fields r = record {
  c = has_operand_byte 99 r.operands;
  s1 = has_operand_pair 115 49 r.operands;
  s2 = has_operand_pair 115 50 r.operands || has_operand_pair 107 52 r.operands;
  n = has_operand_byte 110 r.operands;
  k = has_operand_byte 107 r.operands || has_operand_byte 84 r.operands || has_operand_byte 85 r.operands;
}

-- each field that the row doesn't have is 0, as is required of fields that are valid for it
abbrev pub are_unused_fields_zero : Uses → Fields → Bool
are_unused_fields_zero u f = (u.c || f.c == 0) && (u.s1 || f.s1 == 0) && (u.s2 || f.s2 == 0) && (u.n || f.n == 0) && (u.k || f.k == 0)

-- the registers are valid for the row: ld.a and st.a with post-increment can't load or store the
-- register that is their base
abbrev pub are_registers_allowed : RowData → Fields → Bool
are_registers_allowed r f = not ((r.op1 == 9 || r.op1 == 137) && r.op2 == 6) || not (f.s1 == f.s2)

-- the fields are valid for the row: below its form's bounds, 0 if the row doesn't have them, and
-- with registers that the row allows
pub record FieldsFitRow (r : RowData) (f : Fields) : Type 0 where
  pub below : AreFieldsBelow f (field_bounds r.form)
  pub zero : are_unused_fields_zero (used_fields r) f ≡ true
  pub apart : are_registers_allowed r f ≡ true

-- two truth values are equal, as those must be that say whether a valid row and its form are long
abbrev pub are_bools_equal : Bool → Bool → Bool
are_bools_equal true b = b
are_bools_equal false b = not b

-- the least fields that fit a valid row: all 0, except an address register that can't be the base
abbrev pub least_fields : RowData → Fields
least_fields r = if are_registers_allowed r (fields 0 0 0 0 0) then fields 0 0 0 0 0 else fields 0 1 0 0 0

-- a row of the instruction table is valid: its codes fit the form, and its least fields the row
pub record IsRow (r : RowData) : Type 0 where
  pub first : r.op1 < 256
  pub second : r.op2 < second_opcode_bound r.form
  pub has_least : FieldsFitRow r (least_fields r)
  pub size : is_32_bit_row r ≡ is_32_bit_form r.form

-- the test that a row of the instruction table is valid: its codes fit the form, and its least
-- fields the row
unfoldable pub is_row : RowData → Bool
is_row r = nat_lt r.op1 256 && nat_lt r.op2 (second_opcode_bound r.form) && are_fields_below (least_fields r) (field_bounds r.form) && are_unused_fields_zero (used_fields r) (least_fields r) && are_registers_allowed r (least_fields r) && are_bools_equal (is_32_bit_row r) (is_32_bit_form r.form)

-- two rows clash if some word could be both: they have one first code, and different forms or equal
-- second codes
abbrev pub have_clashing_opcodes : RowData → RowData → Bool
have_clashing_opcodes r s = r.op1 == s.op1 && (not (form_index r.form == form_index s.form) || r.op2 == s.op2)

-- no two rows of the list have codes that clash
abbrev pub have_no_clashing_opcodes : List RowData → Bool
have_no_clashing_opcodes [] = true
have_no_clashing_opcodes (r ∷ rs) = not (list_any (have_clashing_opcodes r) rs) && have_no_clashing_opcodes rs
