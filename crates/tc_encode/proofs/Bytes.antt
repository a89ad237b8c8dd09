-- Words and their bytes.
use Rattle.std.proofs.Common.{◌≡◌, ◌^◌, ◌<◌, ℕ, false, arith}
use Rattle.tc_isa.specs.declared.fields.Fields.{Fields}
use Rattle.tc_isa.specs.declared.table.Form.{Form}
use Rattle.tc_isa.specs.declared.table.Form.TheVariants.{Rlc, Sr, Sc, Sb, Sbr, Src, Srr, Slr, Ssr}
use Rattle.tc_isa.specs.Forms.{field_bounds, second_opcode_bound, is_32_bit_form}
use Rattle.tc_isa.specs.Spelling.{word_of_fields}
use Rattle.tc_isa.specs.InBounds.{AreFieldsBelow}

-- a word of 32 bits, and one of 16
pub word-lt : (form : Form) (op1 op2 : ℕ) (f : Fields) → op1 < 256 → op2 < second_opcode_bound form → AreFieldsBelow f (field_bounds form) → word_of_fields form op1 op2 f < 2 ^ 32
unfolding word_of_fields field_bounds second_opcode_bound
word-lt Rlc op1 op2 f first second below = omega arith
word-lt _ op1 op2 f first second below = omega arith

pub short-lt : (form : Form) (op1 op2 : ℕ) (f : Fields) → op1 < 256 → op2 < second_opcode_bound form → AreFieldsBelow f (field_bounds form) → is_32_bit_form form ≡ false → word_of_fields form op1 op2 f < 2 ^ 16
unfolding word_of_fields field_bounds second_opcode_bound is_32_bit_form
short-lt Sr op1 op2 f first second below short = omega arith
short-lt Sc op1 op2 f first second below short = omega arith
short-lt Sb op1 op2 f first second below short = omega arith
short-lt Sbr op1 op2 f first second below short = omega arith
short-lt Src op1 op2 f first second below short = omega arith
short-lt Srr op1 op2 f first second below short = omega arith
short-lt Slr op1 op2 f first second below short = omega arith
short-lt Ssr op1 op2 f first second below short = omega arith
short-lt _ op1 op2 f first second below short = cc
