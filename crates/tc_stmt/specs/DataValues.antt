-- The values of `.byte`, `.half`, `.word` and `.space`.
use Rattle.std.specs.Prelude.{◌≡◌, ◌⊎◌, ℕ, ◌*◌, ◌^◌, ◌==◌, ◌&&◌, ◌||◌, not, nat_le, min, if◌then◌else◌, ◌∷◌, take, Some, None, List, length, fold, ◌/◌, nat_lt, Bool, []}
use Rattle.tc_isa.specs.Relocations.{word32}
use Rattle.tc_stmt.specs.SourceRules.{wrong_operands, no_rule, wide_number, misplaced_symbol, past_limits}
use Rattle.tcd_base.specs.Bytes.{four_bytes}
use Rattle.tc_lex.specs.Operands.{OperandData}
use Rattle.tc_stmt.specs.Filling.{reference_from_value}
use Rattle.tc_stmt.specs.Names.{rule_broken_by_symbol}
use Rattle.tc_stmt.specs.OperandForms.{shape_index, is_symbol_operand, is_half_operand, operand_number_modulo, is_number_operand, is_huge_operand}
use Rattle.tc_stmt.specs.Items.{ItemData, bytes, zeros}

-- the width in bytes of a value of `.byte`, `.half` or `.word`: 1, 2 or 4
abbrev pub IsDataWidth : ℕ → Type 0
IsDataWidth width = (width ≡ 1) ⊎ ((width ≡ 2) ⊎ (width ≡ 4))

-- the number `size`, negative if `minus`, fits this many bits, signed or unsigned
abbrev pub is_value_within_width : ℕ → Bool → ℕ → Bool
is_value_within_width bits minus size = if minus then nat_le size (2 ^ bits / 2) else nat_lt size (2 ^ bits)

-- the least rule that a value of `.byte`, `.half` or `.word`, of this many bytes, breaks; 15 is
-- none
unfoldable pub rule_broken_by_value : ℕ → OperandData → ℕ
rule_broken_by_value width o =
    if o.is_memory then wrong_operands
    else (if is_number_operand o.value.shape then (if is_value_within_width (8 * width) o.value.minus o.value.size then no_rule else wide_number)
    else (if is_huge_operand o.value.shape then wide_number
    else (if is_symbol_operand (shape_index o.value.shape) then (if width == 4 then rule_broken_by_symbol o.value else min misplaced_symbol (rule_broken_by_symbol o.value))
    else (if is_half_operand (shape_index o.value.shape) then min misplaced_symbol (rule_broken_by_symbol o.value) else wrong_operands))))

-- the item for a value of `.byte`, `.half` or `.word`, of this many bytes: the lowest byte first,
-- and zeros if it breaks a rule
unfoldable pub value_item : ℕ → OperandData → ItemData
value_item width o =
    if not (rule_broken_by_value width o == no_rule) then zeros width
    else (if is_number_operand o.value.shape then bytes (take width (four_bytes (operand_number_modulo (2 ^ 32) o.value.minus o.value.size))) None
    else bytes (take width (0 ∷ 0 ∷ 0 ∷ 0 ∷ [])) (Some (reference_from_value word32 o.value)))

-- the least rule that the operand of `.space` breaks by itself
unfoldable pub rule_broken_by_space : OperandData → ℕ
rule_broken_by_space o =
    if o.is_memory then wrong_operands
    else (if is_number_operand o.value.shape then (if o.value.minus && not (o.value.size == 0) then wide_number else (if nat_le o.value.size (2 ^ 24) then no_rule else past_limits))
    else (if is_huge_operand o.value.shape then wide_number
    else (if is_symbol_operand (shape_index o.value.shape) || is_half_operand (shape_index o.value.shape) then min misplaced_symbol (rule_broken_by_symbol o.value) else wrong_operands)))

-- the item for `.space`: zeros, and none of them if a rule is broken
unfoldable pub space_item : OperandData → ItemData
space_item o = zeros (if rule_broken_by_space o == no_rule then o.value.size else 0)

-- the least rule that the values of `.byte`, `.half` or `.word` break; no values break rule 3
unfoldable pub rule_broken_by_values : ℕ → List OperandData → ℕ
rule_broken_by_values width os = fold (λ rule o. min rule (rule_broken_by_value width o)) (if length os == 0 then wrong_operands else no_rule) os
