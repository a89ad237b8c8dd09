-- A word is that of its codes and fields, if the bits that its form has for no field are 0.
use Rattle.std.proofs.Common.{◌≡◌, ◌/◌, ◌%◌, ◌^◌, ◌<◌, ℕ, true, false, refl, arith}
use Rattle.std.proofs.lemmas.Bool.{and_parts, and_from, eqb-true, eq-eqb}
use Rattle.tc_isa.specs.declared.fields.Fields.{Fields}
use Rattle.tc_isa.specs.declared.table.Form.{Form}
use Rattle.tc_isa.specs.declared.table.Form.TheVariants.{Rlc, Rr, Sys, Sr, Sc, Sb, Sbr, Src, Srr, Slr, Ssr}
use Rattle.tc_isa.specs.Forms.{field_bounds, second_opcode_bound, fields_of_word, second_opcode, is_32_bit_form}
use Rattle.tc_isa.specs.Spelling.{word_of_fields}
use Rattle.tc_isa.specs.InBounds.{AreFieldsBelow}
use Rattle.tc_encode.specs.WordSearch.{are_unused_bits_zero}

pub fields_below : (form : Form) (w : ℕ) → w < 2 ^ 32 → AreFieldsBelow (fields_of_word form w) (field_bounds form)
unfolding fields_of_word field_bounds
fields_below Rlc w h = record { c = omega arith; s1 = omega arith; s2 = omega arith; n = omega arith; k = omega arith }
fields_below _ w h = record { c = omega arith; s1 = omega arith; s2 = omega arith; n = omega arith; k = omega arith }

pub word_back : (form : Form) (op1 op2 w : ℕ) → w < 2 ^ 32 → (is_32_bit_form form ≡ false → w < 2 ^ 16) → op1 ≡ w % 256 → op2 ≡ second_opcode form w → are_unused_bits_zero form w ≡ true → word_of_fields form op1 op2 (fields_of_word form w) ≡ w
unfolding word_of_fields fields_of_word second_opcode are_unused_bits_zero is_32_bit_form
word_back Rr op1 op2 w h short first second full = let gap : w / 2 ^ 18 % 4 ≡ 0 = eqb-true _ _ full in omega arith
word_back Sys op1 op2 w h short first second full = let p = and_parts _ _ full in let high : w / 2 ^ 28 ≡ 0 = eqb-true _ _ p.0 in let low : w / 2 ^ 8 % 2 ^ 14 ≡ 0 = eqb-true _ _ p.1 in omega arith
word_back Sr op1 op2 w h short first second full = let small = short refl in omega arith
word_back Sc op1 op2 w h short first second full = let small = short refl in omega arith
word_back Sb op1 op2 w h short first second full = let small = short refl in omega arith
word_back Sbr op1 op2 w h short first second full = let small = short refl in omega arith
word_back Src op1 op2 w h short first second full = let small = short refl in omega arith
word_back Srr op1 op2 w h short first second full = let small = short refl in omega arith
word_back Slr op1 op2 w h short first second full = let small = short refl in omega arith
word_back Ssr op1 op2 w h short first second full = let small = short refl in omega arith
word_back _ op1 op2 w h short first second full = omega arith

pub full_word : (form : Form) (op1 op2 : ℕ) (f : Fields) → op1 < 256 → op2 < second_opcode_bound form → AreFieldsBelow f (field_bounds form) → are_unused_bits_zero form (word_of_fields form op1 op2 f) ≡ true
unfolding word_of_fields field_bounds second_opcode_bound are_unused_bits_zero
full_word Rr op1 op2 f first second below = let w = word_of_fields Rr op1 op2 f in eq-eqb (w / 2 ^ 18 % 4) 0 (omega arith)
full_word Sys op1 op2 f first second below = let w = word_of_fields Sys op1 op2 f in and_from _ _ (eq-eqb (w / 2 ^ 28) 0 (omega arith)) (eq-eqb (w / 2 ^ 8 % 2 ^ 14) 0 (omega arith))
full_word _ op1 op2 f first second below = refl
