-- The text of an instruction.
use Rattle.std.specs.Prelude.{ℕ, ◌-◌, ◌*◌, ◌/◌, ◌&&◌, nat_le, Bool, true, if◌then◌else◌, List, ◌∷◌, ◌++◌, codes, slice_get, []}
use Rattle.std.specs.Fmt.{decimal}
use Rattle.std.specs.List.{flat_map}
use Rattle.std.specs.Option.{option_map_or}
use Rattle.tcd_text.specs.HexNumbers.{hex_word, hex_byte}
use Rattle.tc_isa.specs.declared.table.Form.{Form}
use Rattle.tc_isa.specs.declared.fields.Fields.{Fields}
use Rattle.tc_isa.specs.Forms.{field_bounds, is_abs_form}
use Rattle.tc_isa.specs.Rows.{RowData, table_rows}
use Rattle.tc_isa.specs.Insts.{InstData, inst_fields}
use Rattle.tc_isa.specs.FromFields.{address_in_constant, code_address_in_constant}
use Rattle.tc_stmt.specs.declared.want.Want.{Want}
use Rattle.tc_stmt.specs.declared.want.Want.TheVariants.{Reg, A10, Number, Target, Absolute, Memory}
use Rattle.tc_stmt.specs.Wants.{wants_of}
use Rattle.tc_stmt.specs.RowFields.{field_of}
use Rattle.tc_stmt.specs.Displacements.{can_jump_back}

-- the text of a register in a listing: `d0` to `d15`, or `a0` to `a15` if bank is true
unfoldable pub register_text : Bool → ℕ → List ℕ
register_text bank n = (if bank then 97 else 100) ∷ decimal n

-- the number in a field is printed with a minus: the field is signed, and its raw value, at least
-- half of this bound, stands for a negative number
abbrev pub is_printed_negative : Bool → ℕ → ℕ → Bool
is_printed_negative signed bound v = signed && nat_le (bound / 2) v

-- the absolute value of the number in a field with values below this bound
abbrev pub printed_magnitude : Bool → ℕ → ℕ → ℕ
printed_magnitude signed bound v = if is_printed_negative signed bound v then bound - v else v

-- the text of a constant operand in a listing: v in decimal, or `-` and bound - v if v stands for a
-- negative number
unfoldable pub number_text : Bool → ℕ → ℕ → List ℕ
number_text signed bound v = if is_printed_negative signed bound v then 45 ∷ decimal (bound - v) else decimal v

-- the text of a jump's target in a listing: `.+` or `.-` and a number of bytes, twice the
-- displacement k, signed if `both`
unfoldable pub target_text : Bool → ℕ → ℕ → List ℕ
target_text both bound k = 46 ∷ (if is_printed_negative both bound k then 45 ∷ decimal (2 * (bound - k)) else 43 ∷ decimal (2 * k))

-- the address in the fields of an ABS row or of a B row
unfoldable pub absolute_operand_address : Form → Fields → ℕ
absolute_operand_address form f = if is_abs_form form then address_in_constant f else code_address_in_constant f

-- a word as a listing prints it: `0x` and eight hex digits
abbrev pub hex_literal : ℕ → List ℕ
hex_literal x = 48 ∷ 120 ∷ hex_word x

-- the text of an absolute address in a listing: `0x` and eight hex digits
unfoldable pub absolute_text : Form → Fields → List ℕ
absolute_text form f = 48 ∷ 120 ∷ hex_word (absolute_operand_address form f)

-- the text of a memory operand's base register in a listing: `[aN]` or `[aN+]`
unfoldable pub base_register_text : Bool → ℕ → List ℕ
base_register_text plus n = 91 ∷ (register_text true n ++ (if plus then codes "+]" else codes "]"))

-- the text in a listing of the operand that a row of this form wants, with these fields
unfoldable pub operand_text : Form → Fields → Want → List ℕ
operand_text form f (Reg bank field) = register_text bank (field_of field f)
operand_text form f A10 = codes "a10"
operand_text form f (Number signed field) = number_text signed (field_of field (field_bounds form)) (field_of field f)
operand_text form f Target = target_text (can_jump_back form) (field_bounds form).k f.k
operand_text form f Absolute = absolute_text form f
operand_text form f (Memory plus offset) = base_register_text plus f.s2 ++ (if offset then number_text true (field_bounds form).k f.k else [])

-- a comma, a blank, and the text of an operand after the first one
abbrev pub further_operand_text : Form → Fields → Want → List ℕ
further_operand_text form f w = codes ", " ++ operand_text form f w

-- the texts of all operands after the first one, each after a comma and a blank
abbrev pub further_operands_text : Form → Fields → List Want → List ℕ
further_operands_text form f ws = flat_map (λ v. codes ", " ++ operand_text form f v) ws

-- the operands after a blank, separated by a comma and a blank
unfoldable pub operands_text : Form → Fields → List Want → List ℕ
operands_text form f [] = []
operands_text form f (w ∷ ws) = 32 ∷ (operand_text form f w ++ flat_map (λ v. codes ", " ++ operand_text form f v) ws)

-- a row's name, and its operands
unfoldable pub row_text : RowData → Fields → List ℕ
row_text r f = r.name ++ operands_text r.form f (wants_of r)

-- the text of an instruction
unfoldable pub instruction_text : InstData → List ℕ
instruction_text i = option_map_or (λ r. row_text r (inst_fields i)) (slice_get table_rows i.row) []

-- the text of data in a listing: `.half` with two bytes as a little-endian number, or `.byte` with
-- a single last byte
abbrev pub data_text : List ℕ → List ℕ
data_text [] = []
data_text (a ∷ []) = codes ".byte 0x" ++ hex_byte a
data_text (a ∷ b ∷ bs) = codes ".half 0x" ++ (hex_byte b ++ hex_byte a)
