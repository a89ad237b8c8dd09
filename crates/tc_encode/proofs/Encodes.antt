-- The bytes of an instruction's word.
use Rattle.std.proofs.Common.{◌≡◌, ◌/◌, ◌%◌, ◌^◌, ◌<◌, ℕ, zero, suc, Bool, true, false, List, [], ◌∷◌, length, take, drop, get_or, refl, sym, ap, subst, ◌∙◌, arith}
use Rattle.std.specs.Prelude.{All, if◌then◌else◌}
use Rattle.std.specs.Int.{w32, to_le_bytes}
use Rattle.tc_isa.specs.Rows.{is_32_bit_row}
use Rattle.tc_isa.specs.Spelling.{row_word, four_or_two_bytes, Spells, spelling_if_row, instruction_bytes}
use Rattle.tcd_base.specs.Bytes.{four_bytes}
use Rattle.tc_isa.specs.Insts.{InstData, IsInst, inst_fields}
use Rattle.tc_isa.proofs.TableFacts.{row_at}
use Rattle.tc_encode.specs.Decoding.{instruction_length}
use Rattle.tc_encode.proofs.Bytes.{word-lt, short-lt}

four_le : (w : ℕ) → w < 2 ^ 32 → to_le_bytes w32 w ≡ four_bytes w
four_le w h =
    let p : w / 2 ^ 24 % 256 ≡ w / 2 ^ 24 = omega arith in
    ap (λ d. w % 256 ∷ w / 2 ^ 8 % 256 ∷ w / 2 ^ 16 % 256 ∷ d ∷ []) p

spelled_length : (long : Bool) (w : ℕ) → length (four_or_two_bytes long w) ≡ (if long then 4 else 2)
spelled_length true w = refl
spelled_length false w = refl

-- what is taken and what is left of the four bytes
taken : (long : Bool) (w : ℕ) → (long ≡ false → w < 2 ^ 16) → take (if long then 4 else 2) (four_bytes w) ≡ four_or_two_bytes long w
taken true w small = refl
taken false w small = let h = small refl in let p : w / 2 ^ 8 % 256 ≡ w / 256 = omega arith in rw p refl

left : (long : Bool) (w : ℕ) → (long ≡ false → w < 2 ^ 16) → All (λ b. b ≡ 0) (drop (if long then 4 else 2) (four_bytes w))
left true w small = λ k d h. absurd (omega arith)
left false w small = λ k d h. zeros k d h
  where
    zeros : (k d : ℕ) → k < 2 → get_or (w / 2 ^ 16 % 256 ∷ w / 2 ^ 24 ∷ []) k d ≡ 0
    zeros zero d h = let p = small refl in omega arith
    zeros (suc zero) d h = let p = small refl in omega arith
    zeros (suc (suc k)) d h = absurd (omega arith)

module _ (i : InstData) (is : IsInst i) (w len : ℕ) (bytes : List ℕ) (word_is : w ≡ row_word is.row (inst_fields i)) (bytes_are : bytes ≡ to_le_bytes w32 w) (len_is : len ≡ instruction_length is.row.op1) where
  below : w < 2 ^ 32
  below = let row = row_at i.row is.row is.at in rw word_is (word-lt is.row.form is.row.op1 is.row.op2 (inst_fields i) row.first row.second is.fits.below)

  small : is_32_bit_row is.row ≡ false → w < 2 ^ 16
  small short = let row = row_at i.row is.row is.at in rw word_is (short-lt is.row.form is.row.op1 is.row.op2 (inst_fields i) row.first row.second is.fits.below (sym row.size ∙ short))

  four : bytes ≡ four_bytes w
  four = bytes_are ∙ four_le w below

  pub encoded : Spells (take len bytes) i
  encoded = record { inst = is; is = ap (λ n. take n bytes) len_is ∙ ap (take (instruction_length is.row.op1)) four ∙ taken (is_32_bit_row is.row) w small ∙ ap (four_or_two_bytes (is_32_bit_row is.row)) word_is }

  pub counted : len ≡ length (instruction_bytes i)
  counted = len_is ∙ sym (spelled_length (is_32_bit_row is.row) (row_word is.row (inst_fields i))) ∙ sym (ap (λ o. length (spelling_if_row o i)) is.at)

  pub padded : All (λ b. b ≡ 0) (drop len bytes)
  padded = subst (λ n. All (λ b. b ≡ 0) (drop n bytes)) (sym len_is) (subst (λ bs. All (λ b. b ≡ 0) (drop (instruction_length is.row.op1) bs)) (sym four) (left (is_32_bit_row is.row) w small))
