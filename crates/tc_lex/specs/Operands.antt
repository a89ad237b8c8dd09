-- The forms of operands.
use Rattle.std.specs.Prelude.{ℕ, ◌+◌, ◌==◌, ◌&&◌, not, Bool, true, false, if◌then◌else◌, List, [], ◌∷◌, length, codes, Option, Some, None, map}
use Rattle.std.specs.Option.{option_map_or}
use Rattle.std.specs.List.{slice_split}
use Rattle.std.specs.Str.{bytes_eq}
use Rattle.tc_lex.specs.declared.kinds.TokenKind.TheVariants as kind
use Rattle.tc_lex.specs.declared.operand.Shape.{Shape}
use Rattle.tc_lex.specs.declared.operand.Shape.TheVariants as shape
use Rattle.tc_lex.specs.declared.operand.Value.{Value}
use Rattle.tc_lex.specs.declared.operand.Operand.{Operand}
use Rattle.tc_lex.specs.Pieces.{PieceData, is_token_kind, token_text, kind_index}
use Rattle.tc_lex.specs.Numbers.{token_number}

-- a value as plain data; a wide one adds a number of 2^128 or more to its name, which no field
-- holds
pub record ValueData : Type 0 where
  pub shape : Shape
  pub name : List ℕ
  pub minus : Bool
  pub size : ℕ
  pub wide : Bool

-- the plain data of a value
abbrev pub value_of : Value → ValueData
value_of v = record { shape = v.shape; name = v.name.now; minus = v.minus; size = v.size; wide = v.wide }

-- an operand: a value, or `[BASE]` or `[BASE+]` followed by a value
pub record OperandData : Type 0 where
  pub is_memory : Bool
  pub plus : Bool
  pub base : List ℕ
  pub value : ValueData

-- the plain data of an operand
abbrev pub operand_of : Operand → OperandData
operand_of o = record { is_memory = o.is_memory; plus = o.plus; base = o.base.now; value = value_of o.value }

-- a value of this form, with a name, a sign and a number below 2^128
abbrev pub value_with_shape : Shape → List ℕ → Bool → ℕ → ValueData
value_with_shape s name minus size = record { shape = s; name = name; minus = minus; size = size; wide = false }

-- tokens that are no value
abbrev pub bad_operand_value : ValueData
bad_operand_value = value_with_shape shape.Bad [] false 0

-- a number with an optional `-` that ends the operand: whether there is the `-`, and the number if
-- it is below 2^128
unfoldable pub operand_number_at : List PieceData → ℕ → Option (Bool × Option ℕ)
operand_number_at ps at =
    if is_token_kind ps at kind.Number && length ps == at + 1 then Some (false, token_number (token_text ps at))
    else (if is_token_kind ps at kind.Minus && is_token_kind ps (at + 1) kind.Number && length ps == at + 2 then Some (true, token_number (token_text ps (at + 1)))
    else None)

-- the value that is a number alone, negative if `minus`; None is a number of 2^128 or more
abbrev pub number_operand_value : Bool → Option ℕ → ValueData
number_operand_value minus (Some n) = value_with_shape shape.Number [] minus n
number_operand_value minus None = value_with_shape shape.Huge [] minus 0

-- the value that is a name plus a number; None is a number of 2^128 or more
abbrev pub sum_operand_value : Shape → List ℕ → Bool → Option ℕ → ValueData
sum_operand_value s name minus (Some n) = value_with_shape s name minus n
sum_operand_value s name minus None = record (value_with_shape s name minus 0) { wide = true }

-- the value that is the name at this token, of form plain, or with a number, of form summed
unfoldable pub name_or_sum_at : List PieceData → ℕ → Shape → Shape → ValueData
name_or_sum_at ps at plain summed =
    if is_token_kind ps at kind.Word
    then (if length ps == at + 1 then value_with_shape plain (token_text ps at) false 0
    else (if is_token_kind ps (at + 1) kind.Plus then option_map_or (λ n. sum_operand_value summed (token_text ps at) n.0 n.1) (operand_number_at ps (at + 2)) bad_operand_value
    else (if is_token_kind ps (at + 1) kind.Minus then option_map_or (λ n. sum_operand_value summed (token_text ps at) (not n.0) n.1) (operand_number_at ps (at + 2)) bad_operand_value
    else bad_operand_value)))
    else bad_operand_value

-- the value that is a symbol, or its upper or lower half, at this token
unfoldable pub symbol_value_at : List PieceData → ℕ → ValueData
symbol_value_at ps at =
    if is_token_kind ps (at + 1) kind.Colon
    then (if bytes_eq (token_text ps at) (codes "hi") then name_or_sum_at ps (at + 2) shape.High shape.High
    else (if bytes_eq (token_text ps at) (codes "lo") then name_or_sum_at ps (at + 2) shape.Low shape.Low
    else bad_operand_value))
    else name_or_sum_at ps at shape.Word shape.Sum

-- the value of an operand from this token to the end: none, a number, a symbol, or a symbol's half
unfoldable pub operand_value_at : List PieceData → ℕ → ValueData
operand_value_at ps at =
    if length ps == at then value_with_shape shape.Absent [] false 0
    else option_map_or (λ n. number_operand_value n.0 n.1) (operand_number_at ps at) (symbol_value_at ps at)

-- an operand that is a value alone
abbrev pub plain_operand : ValueData → OperandData
plain_operand v = record { is_memory = false; plus = false; base = []; value = v }

-- the operand `[BASE]` or `[BASE+]`, followed by a value
abbrev pub bracketed_operand : Bool → List ℕ → ValueData → OperandData
bracketed_operand plus base v = record { is_memory = true; plus = plus; base = base; value = v }

-- an operand: `[BASE]` or `[BASE+]` and a value, or a value alone
unfoldable pub operand_of_tokens : List PieceData → OperandData
operand_of_tokens ps =
    if is_token_kind ps 0 kind.Open
    then (if is_token_kind ps 1 kind.Word
    then (if is_token_kind ps 2 kind.Close then bracketed_operand false (token_text ps 1) (operand_value_at ps 3)
    else (if is_token_kind ps 2 kind.Plus && is_token_kind ps 3 kind.Close then bracketed_operand true (token_text ps 1) (operand_value_at ps 4)
    else plain_operand bad_operand_value))
    else plain_operand bad_operand_value)
    else plain_operand (operand_value_at ps 0)

-- the token that separates operands
abbrev pub is_comma : PieceData → Bool
is_comma p = kind_index p.kind == 2

-- the operands that a line's tokens spell, separated by commas
unfoldable pub operands_of_tokens : List PieceData → List OperandData
operands_of_tokens [] = []
operands_of_tokens (p ∷ ps) = map operand_of_tokens (slice_split is_comma (p ∷ ps))
