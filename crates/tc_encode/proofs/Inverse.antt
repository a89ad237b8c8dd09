-- The fields of an instruction's word are its fields.
use Rattle.std.proofs.Common.{◌≡◌, ◌%◌, ◌<◌, ℕ, arith}
use Rattle.tc_isa.specs.declared.table.Form.{Form}
use Rattle.tc_isa.specs.declared.table.Form.TheVariants.{Rlc}
use Rattle.tc_isa.specs.declared.fields.Fields.{Fields}
use Rattle.tc_isa.specs.Forms.{field_bounds, second_opcode_bound, fields_of_word, second_opcode}
use Rattle.tc_isa.specs.Spelling.{word_of_fields}
use Rattle.tc_isa.specs.InBounds.{AreFieldsBelow}

same : (a b : Fields) → a.c ≡ b.c → a.s1 ≡ b.s1 → a.s2 ≡ b.s2 → a.n ≡ b.n → a.k ≡ b.k → a ≡ b
same a b c s1 s2 n k = λ i. record { c = c i; s1 = s1 i; s2 = s2 i; n = n i; k = k i }

pub fields-word : (form : Form) (op1 op2 : ℕ) (f : Fields) → op1 < 256 → op2 < second_opcode_bound form → AreFieldsBelow f (field_bounds form) → fields_of_word form (word_of_fields form op1 op2 f) ≡ f
unfolding word_of_fields fields_of_word field_bounds second_opcode_bound
fields-word Rlc op1 op2 f first second below = same _ _ (omega arith) (omega arith) (omega arith) (omega arith) (omega arith)
fields-word _ op1 op2 f first second below = same _ _ (omega arith) (omega arith) (omega arith) (omega arith) (omega arith)

pub second-word : (form : Form) (op1 op2 : ℕ) (f : Fields) → op1 < 256 → op2 < second_opcode_bound form → AreFieldsBelow f (field_bounds form) → second_opcode form (word_of_fields form op1 op2 f) ≡ op2
unfolding word_of_fields second_opcode field_bounds second_opcode_bound
second-word Rlc op1 op2 f first second below = omega arith
second-word _ op1 op2 f first second below = omega arith

pub first-word : (form : Form) (op1 op2 : ℕ) (f : Fields) → op1 < 256 → op2 < second_opcode_bound form → AreFieldsBelow f (field_bounds form) → word_of_fields form op1 op2 f % 256 ≡ op1
unfolding word_of_fields field_bounds second_opcode_bound
first-word Rlc op1 op2 f first second below = omega arith
first-word _ op1 op2 f first second below = omega arith
