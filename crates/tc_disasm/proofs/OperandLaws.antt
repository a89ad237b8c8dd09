-- Printed operands are read as operands.
use Rattle.std.proofs.Common.{◌≡◌, ℕ, Bool, true, false, List, [], ◌∷◌, ◌++◌, refl}
use Rattle.std.specs.Prelude.{if◌then◌else◌}
use Rattle.tc_lex.specs.declared.kinds.TokenKind.TheVariants as kind
use Rattle.tc_lex.specs.declared.operand.Shape.TheVariants as shape
use Rattle.tc_lex.specs.Pieces.{is_token_kind, token_text, kind_index}
use Rattle.tc_lex.specs.Numbers.{token_number}
use Rattle.tc_lex.specs.Operands.{operand_of_tokens, operand_value_at, operand_number_at, symbol_value_at, name_or_sum_at, value_with_shape, plain_operand, bracketed_operand, number_operand_value, sum_operand_value}
use Rattle.std.specs.Fmt.{decimal}
use Rattle.tc_disasm.specs.Texts.{register_text}
use Rattle.tc_disasm.specs.Tokens.{printed_token, number_tokens, base_register_tokens}

pub operand-word : (text : List ℕ) → operand_of_tokens (printed_token kind.Word text ∷ []) ≡ plain_operand (value_with_shape shape.Word text false 0)
unfolding operand_of_tokens operand_value_at operand_number_at symbol_value_at name_or_sum_at is_token_kind token_text kind_index
operand-word text = refl

pub operand-number : (minus : Bool) (size : ℕ) → operand_of_tokens (number_tokens minus size) ≡ plain_operand (number_operand_value minus (token_number (decimal size)))
unfolding operand_of_tokens operand_value_at operand_number_at symbol_value_at name_or_sum_at is_token_kind token_text kind_index
operand-number true size = refl
operand-number false size = refl

pub operand-target : (minus : Bool) (text digits : List ℕ) → operand_of_tokens (printed_token kind.Word text ∷ (if minus then printed_token kind.Minus (45 ∷ []) else printed_token kind.Plus (43 ∷ [])) ∷ printed_token kind.Number digits ∷ []) ≡ plain_operand (sum_operand_value shape.Sum text minus (token_number digits))
unfolding operand_of_tokens operand_value_at operand_number_at symbol_value_at name_or_sum_at is_token_kind token_text kind_index
operand-target true text digits = refl
operand-target false text digits = refl

pub operand-base : (plus : Bool) (n : ℕ) → operand_of_tokens (base_register_tokens plus n) ≡ bracketed_operand plus (register_text true n) (value_with_shape shape.Absent [] false 0)
unfolding operand_of_tokens operand_value_at operand_number_at symbol_value_at name_or_sum_at is_token_kind token_text kind_index
operand-base true n = refl
operand-base false n = refl

pub operand-offset : (plus minus : Bool) (n size : ℕ) → operand_of_tokens (base_register_tokens plus n ++ number_tokens minus size) ≡ bracketed_operand plus (register_text true n) (number_operand_value minus (token_number (decimal size)))
unfolding operand_of_tokens operand_value_at operand_number_at symbol_value_at name_or_sum_at is_token_kind token_text kind_index
operand-offset true true n size = refl
operand-offset true false n size = refl
operand-offset false true n size = refl
operand-offset false false n size = refl
