-- Values of operands: their forms, the number that fits a field, and the register or the symbol
-- that is named.
use Rattle.std.specs.Prelude.{ℕ, ◌+◌, ◌-◌, ◌==◌, ◌&&◌, ◌||◌, not, nat_le, Bool, if◌then◌else◌, List, length, slice_index}
use Rattle.tc_lex.specs.Bytes.{is_digit}
use Rattle.tc_lex.specs.declared.operand.Shape.{Shape}
use Rattle.tc_lex.specs.declared.operand.Shape.TheVariants as shape

-- a number for each form of operands' values, so that forms can be compared
unfoldable pub shape_index : Shape → ℕ
shape_index shape.Absent = 0
shape_index shape.Number = 1
shape_index shape.Word = 2
shape_index shape.Sum = 3
shape_index shape.High = 4
shape_index shape.Low = 5
shape_index shape.Bad = 6
shape_index shape.Huge = 7

-- the form of an operand's value is that of no value, as after the brackets of `[a4]`
abbrev pub is_absent_operand : Shape → Bool
is_absent_operand s = shape_index s == 0

-- the form of an operand's value is a number below 2^128
abbrev pub is_number_operand : Shape → Bool
is_number_operand s = shape_index s == 1

-- the form of an operand's value is a name alone
abbrev pub is_name_operand : Shape → Bool
is_name_operand s = shape_index s == 2

-- the form of an operand's value is a name plus or minus a number
abbrev pub is_sum_operand : Shape → Bool
is_sum_operand s = shape_index s == 3

-- the form of an operand's value is the upper half of an address, `hi:`
abbrev pub is_high_operand : Shape → Bool
is_high_operand s = shape_index s == 4

-- the form of an operand's value is a number of 2^128 or more
abbrev pub is_huge_operand : Shape → Bool
is_huge_operand s = shape_index s == 7

-- the number of the register that an operand's value names: 0 to 15 for d0 to d15, 16 to 31 for a0
-- to a15, and 64 or more for any other name
unfoldable pub register_number : List ℕ → ℕ
register_number name =
    (if slice_index name 0 == 100 then 0 else (if slice_index name 0 == 97 then 16 else 64))
    + (if length name == 2 && is_digit (slice_index name 1) then slice_index name 1 - 48
    else (if length name == 3 && slice_index name 1 == 49 && nat_le 48 (slice_index name 2) && nat_le (slice_index name 2) 53 then slice_index name 2 - 38
    else 64))

-- an operand's number `size`, negative if `minus`, modulo this bound
abbrev pub operand_number_modulo : ℕ → Bool → ℕ → ℕ
operand_number_modulo bound minus size = if minus && not (size == 0) then bound - size else size

-- the form of this number is a name, or a name with a number added
abbrev pub is_symbol_operand : ℕ → Bool
is_symbol_operand i = i == 2 || i == 3

-- the form of this number is the upper or the lower half of a symbol
abbrev pub is_half_operand : ℕ → Bool
is_half_operand i = i == 4 || i == 5
