-- The operands that can be printed for a want.
use Rattle.std.specs.Prelude.{◌≡◌, ℕ, ◌<◌, Bool, true, false, List, ◌∷◌, codes, []}
use Rattle.tc_stmt.specs.declared.want.Want.{Want}
use Rattle.tc_stmt.specs.declared.want.Want.TheVariants.{Reg, A10, Number, Target, Absolute, Memory}
use Rattle.tc_lex.specs.Operands.{OperandData, ValueData, value_with_shape, plain_operand, bracketed_operand}
use Rattle.tc_disasm.specs.Texts.{register_text}
use Rattle.tc_lex.specs.declared.operand.Shape.TheVariants as shape

-- this is an operand that can be printed for the want
abbrev pub IsPrintableFor : Want → OperandData → Type 0
IsPrintableFor (Reg p x) o = (n : ℕ) × (n < 16) × (o ≡ plain_operand (value_with_shape shape.Word (register_text p n) false 0))
IsPrintableFor A10 o = o ≡ plain_operand (value_with_shape shape.Word (codes "a10") false 0)
IsPrintableFor (Number s x) o = (minus : Bool) × (size : ℕ) × (o ≡ plain_operand (value_with_shape shape.Number [] minus size))
IsPrintableFor Target o = (minus : Bool) × (size : ℕ) × (o ≡ plain_operand (value_with_shape shape.Sum (codes ".") minus size))
IsPrintableFor Absolute o = (size : ℕ) × (o ≡ plain_operand (value_with_shape shape.Number [] false size))
IsPrintableFor (Memory p u) o = (n : ℕ) × (v : ValueData) × (o ≡ bracketed_operand p (register_text true n) v)

-- the operands can be printed for the wants, one for each
abbrev pub ArePrintableFor : List Want → List OperandData → Type 0
ArePrintableFor [] [] = Unit {0}
ArePrintableFor [] (o ∷ os) = ⊥
ArePrintableFor (w ∷ ws) [] = ⊥
ArePrintableFor (w ∷ ws) (o ∷ os) = IsPrintableFor w o × ArePrintableFor ws os
