-- The beginning of one spelling of a row, completed from another spelling, is a spelling.
use Rattle.std.proofs.Common.{◌≡◌, ◌⊎◌, inl, inr, ◌<◌, ℕ, arith}
use Rattle.tc_isa.specs.declared.fields.Fields.{Fields}
use Rattle.tc_isa.specs.declared.table.Form.{Form}
use Rattle.tc_isa.specs.declared.table.Form.TheVariants.{Rlc}
use Rattle.tc_isa.specs.Forms.{field_bounds, second_opcode_bound, fields_of_word}
use Rattle.tc_isa.specs.Spelling.{word_of_fields}
use Rattle.tc_isa.specs.InBounds.{AreFieldsBelow}
use Rattle.tc_encode.specs.WordSearch.{with_low_byte, with_low_three_bytes, with_low_two_bytes}

pub record Mixed (form : Form) (op1 op2 : ℕ) (f g : Fields) (m : ℕ) : Type 0 where
  pub below : AreFieldsBelow (fields_of_word form m) (field_bounds form)
  pub is : word_of_fields form op1 op2 (fields_of_word form m) ≡ m
  pub c : f.c ≡ 0 → g.c ≡ 0 → (fields_of_word form m).c ≡ 0
  pub s1 : f.s1 ≡ 0 → g.s1 ≡ 0 → (fields_of_word form m).s1 ≡ 0
  pub s2 : f.s2 ≡ 0 → g.s2 ≡ 0 → (fields_of_word form m).s2 ≡ 0
  pub n : f.n ≡ 0 → g.n ≡ 0 → (fields_of_word form m).n ≡ 0
  pub k : f.k ≡ 0 → g.k ≡ 0 → (fields_of_word form m).k ≡ 0
  pub registers : (((fields_of_word form m).s1 ≡ g.s1) × ((fields_of_word form m).s2 ≡ g.s2)) ⊎ (((fields_of_word form m).s1 ≡ f.s1) × ((fields_of_word form m).s2 ≡ f.s2))

pub mixed1 : (form : Form) (op1 op2 : ℕ) (f g : Fields) → op1 < 256 → op2 < second_opcode_bound form → AreFieldsBelow f (field_bounds form) → AreFieldsBelow g (field_bounds form) → Mixed form op1 op2 f g (with_low_byte (word_of_fields form op1 op2 f) (word_of_fields form op1 op2 g))
unfolding word_of_fields fields_of_word field_bounds second_opcode_bound
mixed1 Rlc op1 op2 f g first second below under = record { below = record { c = omega arith; s1 = omega arith; s2 = omega arith; n = omega arith; k = omega arith }; is = omega arith; c = λ a b. omega arith; s1 = λ a b. omega arith; s2 = λ a b. omega arith; n = λ a b. omega arith; k = λ a b. omega arith; registers = inl (omega arith, omega arith) }
mixed1 _ op1 op2 f g first second below under = record { below = record { c = omega arith; s1 = omega arith; s2 = omega arith; n = omega arith; k = omega arith }; is = omega arith; c = λ a b. omega arith; s1 = λ a b. omega arith; s2 = λ a b. omega arith; n = λ a b. omega arith; k = λ a b. omega arith; registers = inl (omega arith, omega arith) }

pub mixed2 : (form : Form) (op1 op2 : ℕ) (f g : Fields) → op1 < 256 → op2 < second_opcode_bound form → AreFieldsBelow f (field_bounds form) → AreFieldsBelow g (field_bounds form) → Mixed form op1 op2 f g (with_low_two_bytes (word_of_fields form op1 op2 f) (word_of_fields form op1 op2 g))
unfolding word_of_fields fields_of_word field_bounds second_opcode_bound
mixed2 Rlc op1 op2 f g first second below under = record { below = record { c = omega arith; s1 = omega arith; s2 = omega arith; n = omega arith; k = omega arith }; is = omega arith; c = λ a b. omega arith; s1 = λ a b. omega arith; s2 = λ a b. omega arith; n = λ a b. omega arith; k = λ a b. omega arith; registers = inr (omega arith, omega arith) }
mixed2 _ op1 op2 f g first second below under = record { below = record { c = omega arith; s1 = omega arith; s2 = omega arith; n = omega arith; k = omega arith }; is = omega arith; c = λ a b. omega arith; s1 = λ a b. omega arith; s2 = λ a b. omega arith; n = λ a b. omega arith; k = λ a b. omega arith; registers = inr (omega arith, omega arith) }

pub mixed3 : (form : Form) (op1 op2 : ℕ) (f g : Fields) → op1 < 256 → op2 < second_opcode_bound form → AreFieldsBelow f (field_bounds form) → AreFieldsBelow g (field_bounds form) → Mixed form op1 op2 f g (with_low_three_bytes (word_of_fields form op1 op2 f) (word_of_fields form op1 op2 g))
unfolding word_of_fields fields_of_word field_bounds second_opcode_bound
mixed3 Rlc op1 op2 f g first second below under = record { below = record { c = omega arith; s1 = omega arith; s2 = omega arith; n = omega arith; k = omega arith }; is = omega arith; c = λ a b. omega arith; s1 = λ a b. omega arith; s2 = λ a b. omega arith; n = λ a b. omega arith; k = λ a b. omega arith; registers = inr (omega arith, omega arith) }
mixed3 _ op1 op2 f g first second below under = record { below = record { c = omega arith; s1 = omega arith; s2 = omega arith; n = omega arith; k = omega arith }; is = omega arith; c = λ a b. omega arith; s1 = λ a b. omega arith; s2 = λ a b. omega arith; n = λ a b. omega arith; k = λ a b. omega arith; registers = inr (omega arith, omega arith) }
