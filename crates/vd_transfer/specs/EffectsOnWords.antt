-- What an instruction does to the words of registers, to IE and to CCPN.
use Rattle.std.specs.Prelude.{◌+◌, ◌-◌, ◌*◌, ◌%◌, ◌^◌, ℕ, Bool, ◌==◌, if◌then◌else◌, true, false}
use Rattle.tc_isa.specs.declared.shapes.Arg.{Arg}
use Rattle.tc_isa.specs.declared.shapes.Arg.TheVariants.{Reg, Word}
use Rattle.tc_isa.specs.declared.shapes.Shape.{Shape}
use Rattle.tc_isa.specs.declared.shapes.Shape.TheVariants.{Compute, Scaled, Load, Store, Branch, Bisr, Mfcr, Enable, Disable}
use Rattle.tc_isa.specs.Arithmetic.{alu_of}

-- the words of registers, by number, with the word w in register r
abbrev pub words_with_register : (ℕ → ℕ) → ℕ → ℕ → ℕ → ℕ
words_with_register word r w q = if q == r then w else word q

-- the word of an operand: a register's, or the constant
abbrev pub operand_word : (ℕ → ℕ) → Arg → ℕ
operand_word word (Reg r) = word r
operand_word word (Word w) = w

-- the address that a load or store computes from words of registers: the base alone if `after`
abbrev pub accessed_address : (ℕ → ℕ) → Arg → ℕ → Bool → ℕ
accessed_address word base offset after = if after then operand_word word base else (operand_word word base + offset) % 2 ^ 32

-- the words of registers after the access increased its base register by the offset, if the access
-- does that
abbrev pub words_with_increased_base : (ℕ → ℕ) → Arg → ℕ → Bool → ℕ → ℕ
words_with_increased_base word (Reg r) offset after = if after then words_with_register word r ((word r + offset) % 2 ^ 32) else word
words_with_increased_base word (Word w) offset after = word

-- the words of registers after an instruction; a load or mfcr writes the word `input`; saving and
-- restoring contexts is defined elsewhere
unfoldable pub words_after : Shape → ℕ → (ℕ → ℕ) → ℕ → ℕ
words_after (Compute op dst x y) input word = words_with_register word dst (alu_of op (operand_word word x) (operand_word word y))
words_after (Scaled dst base index n) input word = words_with_register word dst ((word base + word index * 2 ^ n) % 2 ^ 32)
words_after (Load dst base offset size signed after) input word = words_with_register (words_with_increased_base word base offset after) dst input
words_after (Store src base offset size after) input word = words_with_increased_base word base offset after
words_after (Branch cond x y by lowers) input word = if lowers then words_with_register word x ((word x + (2 ^ 32 - 1)) % 2 ^ 32) else word
words_after (Mfcr dst number) input word = words_with_register word dst input
words_after _ input word = word

-- an instruction's effect on CCPN: BISR sets it, and restoring contexts is defined elsewhere
-- (TriCore 1 Architecture Manual V1.3, volume 2, instruction set)
unfoldable pub ccpn_after : Shape → ℕ → ℕ
ccpn_after (Bisr c) ccpn = c
ccpn_after _ ccpn = ccpn

-- an instruction's effect on IE: whether interrupts are enabled after it
unfoldable pub ie_after : Shape → Bool → Bool
ie_after (Bisr c) ie = true
ie_after Enable ie = true
ie_after Disable ie = false
ie_after _ ie = ie
