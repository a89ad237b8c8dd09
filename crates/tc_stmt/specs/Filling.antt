-- The fields of a row that operands fill, each at its own place, and the least rule that they
-- break.
use Rattle.std.specs.Prelude.{ℕ, ◌+◌, ◌*◌, ◌/◌, ◌%◌, ◌^◌, ◌==◌, ◌&&◌, ◌||◌, not, nat_le, min, Bool, true, if◌then◌else◌, List, ◌∷◌, codes, Option, Some, None, option_and_then, ◌≡◌, nat_lt, []}
use Rattle.std.specs.Str.{bytes_eq}
use Rattle.tc_isa.specs.Relocations.{hi16, lo16, offset16, abs24}
use Rattle.tc_stmt.specs.SourceRules.{wrong_register, wide_number, equal_registers, no_rule, misplaced_symbol}
use Rattle.tc_isa.specs.Rows.{RowData}
use Rattle.tc_isa.specs.declared.table.Form.{Form}
use Rattle.tc_isa.specs.Forms.{field_bounds, is_bol_form, is_abs_form}
use Rattle.tc_isa.specs.ValidRowFields.{are_registers_allowed}
use Rattle.tc_lex.specs.declared.operand.Shape.{Shape}
use Rattle.tc_stmt.specs.declared.want.Field.{Field}
use Rattle.tc_stmt.specs.declared.want.Field.TheVariants.{S2, K}
use Rattle.tc_stmt.specs.declared.want.Want.{Want}
use Rattle.tc_stmt.specs.declared.want.Want.TheVariants.{Reg, A10, Number, Target, Absolute, Memory}
use Rattle.tc_stmt.specs.Names.{rule_broken_by_symbol}
use Rattle.tc_lex.specs.Operands.{ValueData, OperandData}
use Rattle.tc_stmt.specs.OperandForms.{is_absent_operand, is_half_operand, is_high_operand, is_huge_operand, is_number_operand, is_sum_operand, is_symbol_operand, is_name_operand, register_number, shape_index, operand_number_modulo}
use Rattle.tc_stmt.specs.RowFields.{RowFieldsData, field_of, zero_fields, with_rule, with_field_value, row_fields_of}
use Rattle.tc_stmt.specs.Items.{ReferenceData}
use Rattle.tc_stmt.specs.Displacements.{target_operand_relocation, with_displacement}
use Rattle.tc_stmt.specs.declared.row_fields.RowFields.{RowFields}

-- a row's fields with a register of the data bank (false) or the address bank (true) in one of
-- them; another name breaks rule 4
unfoldable pub fill_named_register : Bool → Field → List ℕ → RowFieldsData → RowFieldsData
fill_named_register bank field name acc =
    if register_number name / 16 == (if bank then 1 else 0) then with_field_value field (register_number name % 16) acc else with_rule wrong_register acc

-- the number `size`, negative if `minus`, fits a field of `bound` values, signed or not
unfoldable pub is_within_field_bound : Bool → ℕ → Bool → ℕ → Bool
is_within_field_bound signed bound minus size =
    if signed
    then (if minus then nat_le size (bound / 2) else nat_lt size (bound / 2))
    else (if minus then size == 0 else nat_lt size bound)

-- a row's fields with the number `size`, negative if `minus`, in one that is signed or not; a
-- number that doesn't fit breaks rule 5
unfoldable pub fill_number : Form → Bool → Field → Bool → ℕ → RowFieldsData → RowFieldsData
fill_number form signed field minus size acc =
    if is_within_field_bound signed (field_of field (field_bounds form)) minus size then with_field_value field (operand_number_modulo (field_of field (field_bounds form)) minus size) acc else with_rule wide_number acc

-- the reference of this kind to the symbol in an operand's value, with the number that is added
abbrev pub reference_from_value : ℕ → ValueData → ReferenceData
reference_from_value kind v = record { kind = kind; name = v.name; minus = v.minus; size = v.size }

-- a row's fields with an operand's symbol noted, in a place that takes one, or with the rule that
-- the symbol breaks
unfoldable pub with_symbol : ℕ → ValueData → RowFieldsData → RowFieldsData
with_symbol kind v acc = if rule_broken_by_symbol v == no_rule then record acc { reference = Some (reference_from_value kind v) } else with_rule (rule_broken_by_symbol v) acc

-- a row's fields after an operand's symbol in a place that takes none: rule 10 is broken, or a
-- smaller one
abbrev pub with_misplaced_symbol : ValueData → RowFieldsData → RowFieldsData
with_misplaced_symbol v acc = with_rule (min misplaced_symbol (rule_broken_by_symbol v)) acc

-- the row whose fields operands fill has this name
abbrev pub is_row_named : RowData → List ℕ → Bool
is_row_named r name = bytes_eq r.name name

-- the relocation by which an operand `hi:` or `lo:`, a half of an address, fills the constant of
-- this row, or 0 if the row takes none
unfoldable pub half_operand_relocation : RowData → Shape → ℕ
half_operand_relocation r s =
    if is_high_operand s
    then (if is_row_named r (codes "movh") || is_row_named r (codes "movh.a") || is_row_named r (codes "addih") || is_row_named r (codes "addih.a") then hi16 else 0)
    else (if is_row_named r (codes "addi") then lo16 else (if is_bol_form r.form then offset16 else 0))

-- a row's fields after an operand's value as a constant, which may break a rule; None if the value
-- has another form
unfoldable pub fill_constant : RowData → Bool → Field → ValueData → RowFieldsData → Option RowFieldsData
fill_constant r signed field v acc =
    if is_number_operand v.shape then Some (fill_number r.form signed field v.minus v.size acc)
    else (if is_huge_operand v.shape then Some (with_rule wide_number acc)
    else (if is_symbol_operand (shape_index v.shape) then Some (with_misplaced_symbol v acc)
    else (if is_half_operand (shape_index v.shape) then (if half_operand_relocation r v.shape == 0 then Some (with_misplaced_symbol v acc) else Some (with_symbol (half_operand_relocation r v.shape) v acc))
    else None)))

-- A row's fields after `[BASE]`, or `[BASE+]` if `plus`, with an offset if `offset`; None if the
-- operand has another form. Source: TriCore 1 Architecture Manual V1.3, volume 1, addressing modes.
unfoldable pub fill_memory : RowData → Bool → Bool → OperandData → RowFieldsData → Option RowFieldsData
fill_memory r plus offset o acc =
    if o.is_memory && (if o.plus then plus else not plus)
    then (if is_absent_operand o.value.shape then Some (fill_named_register true S2 o.base acc)
    else (if offset then fill_constant r true K o.value (fill_named_register true S2 o.base acc) else None))
    else None

-- A row's fields after a value as the target of a jump or call: a displacement from the
-- instruction, or a symbol. A displacement of 2^128 bytes or more doesn't fit any row.
unfoldable pub fill_target : RowData → ValueData → RowFieldsData → Option RowFieldsData
fill_target r v acc =
    if is_sum_operand v.shape && bytes_eq v.name (codes ".")
    then Some (if v.wide then with_rule wide_number acc else with_displacement r v.minus v.size acc)
    else (if is_symbol_operand (shape_index v.shape) then Some (with_symbol (target_operand_relocation r) v acc)
    else (if is_half_operand (shape_index v.shape) then Some (with_misplaced_symbol v acc)
    else None))

-- a row's fields with an absolute address in the constant; an address that the field can't hold
-- breaks rule 5
unfoldable pub fill_address : Form → Bool → ℕ → RowFieldsData → RowFieldsData
fill_address form minus size acc =
    if (minus && not (size == 0)) || nat_le (2 ^ 32) size then with_rule wide_number acc
    else (if is_abs_form form
    then (if size / 2 ^ 14 % 2 ^ 14 == 0 then with_field_value K (size / 2 ^ 28 * 2 ^ 14 + size % 2 ^ 14) acc else with_rule wide_number acc)
    else (if size / 2 ^ 21 % 2 ^ 7 == 0 && size % 2 == 0 then with_field_value K (size / 2 ^ 28 * 2 ^ 20 + size % 2 ^ 21 / 2) acc else with_rule wide_number acc))

-- a row's fields after a value as an absolute address: a number, or a symbol in rows of jumps and
-- calls; None for another form
unfoldable pub fill_absolute : RowData → ValueData → RowFieldsData → Option RowFieldsData
fill_absolute r v acc =
    if is_number_operand v.shape then Some (fill_address r.form v.minus v.size acc)
    else (if is_huge_operand v.shape then Some (with_rule wide_number acc)
    else (if is_symbol_operand (shape_index v.shape) then (if is_abs_form r.form then Some (with_misplaced_symbol v acc) else Some (with_symbol abs24 v acc))
    else (if is_half_operand (shape_index v.shape) then Some (with_misplaced_symbol v acc)
    else None)))

-- a row's fields after a value that names a register, of the data bank (false) or the address bank
-- (true); None for no name
unfoldable pub fill_register : Bool → Field → ValueData → RowFieldsData → Option RowFieldsData
fill_register bank field v acc = if is_name_operand v.shape then Some (fill_named_register bank field v.name acc) else None

-- A row's fields after an operand that has to be a10, the stack pointer, which no field holds;
-- another name breaks rule 4. Source: manual, volume 1, general purpose and system registers.
unfoldable pub check_a10 : ValueData → RowFieldsData → Option RowFieldsData
check_a10 v acc = if is_name_operand v.shape then (if bytes_eq v.name (codes "a10") then Some acc else Some (with_rule wrong_register acc)) else None

-- a row's fields after an operand without brackets, by what the row wants there; None if the
-- operand has another form
unfoldable pub fill_plain_operand : RowData → Want → ValueData → RowFieldsData → Option RowFieldsData
fill_plain_operand r (Reg bank field) v acc = fill_register bank field v acc
fill_plain_operand r A10 v acc = check_a10 v acc
fill_plain_operand r (Number signed field) v acc = fill_constant r signed field v acc
fill_plain_operand r Target v acc = fill_target r v acc
fill_plain_operand r Absolute v acc = fill_absolute r v acc
fill_plain_operand r (Memory plus offset) v acc = None

-- a row's fields after an operand, by what the row wants there; None if the operand has another
-- form
unfoldable pub fill_operand : RowData → Want → OperandData → RowFieldsData → Option RowFieldsData
fill_operand r (Memory plus offset) o acc = fill_memory r plus offset o acc
fill_operand r w o acc = if o.is_memory then None else fill_plain_operand r w o.value acc

-- a row's fields after all operands of a statement, each by what the row wants there; None if their
-- number or a form differs
unfoldable pub fill_operands : RowData → List Want → List OperandData → RowFieldsData → Option RowFieldsData
fill_operands r [] [] acc = Some acc
fill_operands r [] (o ∷ os) acc = None
fill_operands r (w ∷ ws) [] acc = None
fill_operands r (w ∷ ws) (o ∷ os) acc = option_and_then (fill_operands r ws os) (fill_operand r w o acc)

-- a row's fields, with rule 12 noted as broken if the row's registers must differ and are equal
abbrev pub note_equal_registers : RowData → RowFieldsData → RowFieldsData
note_equal_registers r f = if are_registers_allowed r f.fields then f else with_rule equal_registers f

-- the row's fields after operands filled them; None if the forms of the operands aren't those of
-- the row
unfoldable pub fields_of_row : RowData → List Want → List OperandData → Option RowFieldsData
fields_of_row r ws os = option_and_then (λ f. Some (note_equal_registers r f)) (fill_operands r ws os zero_fields)

-- the code's result for operands that fill a row: true and these fields as plain data, or false if
-- there are none
abbrev pub GivesFieldsOrFalse : Bool → RowFields → Option RowFieldsData → Type 0
GivesFieldsOrFalse fits f given = (if fits then Some (row_fields_of f) else None) ≡ given
