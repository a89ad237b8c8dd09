-- Arithmetic on words, by whole numbers modulo 2 ^ 32.
-- (manual, volume 2, instruction set)
use Rattle.std.specs.Prelude.{◌+◌, ◌-◌, ◌*◌, ◌/◌, ◌%◌, ◌^◌, ℕ, Bool, not, ◌==◌, nat_lt, nat_le, if◌then◌else◌, bit_and, bit_or, bit_xor}
use Rattle.tcd_base.specs.BitFields.{sext_of}
use Rattle.tc_isa.specs.declared.shapes.Op.{Op}
use Rattle.tc_isa.specs.declared.shapes.Op.TheVariants as op
use Rattle.tc_isa.specs.declared.shapes.Cond.{Cond}
use Rattle.tc_isa.specs.declared.shapes.Cond.TheVariants as cond

-- a number of n bits, sign-extended to 32
abbrev pub sign_extended : ℕ → ℕ → ℕ
sign_extended n x = sext_of x n

-- a word's rank in the signed order: 80000000 has rank 0, 0 has rank 2 ^ 31, and 7FFFFFFF has the
-- greatest rank
abbrev pub signed_rank : ℕ → ℕ
signed_rank x = (x + 2 ^ 31) % 2 ^ 32

-- the word with all bits inverted
abbrev pub complement : ℕ → ℕ
complement x = 2 ^ 32 - 1 - x

-- a condition holds for two words; Lt and Ge are signed, LtU and GeU unsigned
unfoldable pub taken_of : Cond → ℕ → ℕ → Bool
taken_of cond.Eq x y = x == y
taken_of cond.Ne x y = not (x == y)
taken_of cond.Lt x y = nat_lt (signed_rank x) (signed_rank y)
taken_of cond.LtU x y = nat_lt x y
taken_of cond.Ge x y = nat_le (signed_rank y) (signed_rank x)
taken_of cond.GeU x y = nat_le y x

-- the word that a comparison gives: 1 for true, 0 for false
abbrev pub word_of_bool : Bool → ℕ
word_of_bool b = if b then 1 else 0

-- the shift by a count of six bits: to the left if it is below 32, else to the right by 64 less the
-- count, filled with zeros
abbrev pub logical_shift : ℕ → ℕ → ℕ
logical_shift x n = if nat_lt n 32 then x * 2 ^ n % 2 ^ 32 else x / 2 ^ (64 - n)

-- the shift by six bits n: left if below 32, else right by 64 - n, filled with the sign bit
abbrev pub arithmetic_shift : ℕ → ℕ → ℕ
arithmetic_shift x n = if nat_lt n 32 then x * 2 ^ n % 2 ^ 32 else if nat_lt x (2 ^ 31) then x / 2 ^ (64 - n) else complement (complement x / 2 ^ (64 - n))

-- the result of an operation on two words
unfoldable pub alu_of : Op → ℕ → ℕ → ℕ
alu_of op.Second x y = y
alu_of op.Add x y = (x + y) % 2 ^ 32
alu_of op.Sub x y = (x + 2 ^ 32 - y) % 2 ^ 32
alu_of op.And x y = bit_and x y
alu_of op.Nand x y = complement (bit_and x y)
alu_of op.Or x y = bit_or x y
alu_of op.Nor x y = complement (bit_or x y)
alu_of op.Xor x y = bit_xor x y
alu_of op.Xnor x y = complement (bit_xor x y)
alu_of op.Andn x y = bit_and x (complement y)
alu_of op.Orn x y = bit_or x (complement y)
alu_of op.Eq x y = word_of_bool (x == y)
alu_of op.Ne x y = word_of_bool (not (x == y))
alu_of op.Lt x y = word_of_bool (nat_lt (signed_rank x) (signed_rank y))
alu_of op.LtU x y = word_of_bool (nat_lt x y)
alu_of op.Ge x y = word_of_bool (nat_le (signed_rank y) (signed_rank x))
alu_of op.GeU x y = word_of_bool (nat_le y x)
alu_of op.Sh x y = logical_shift x (y % 64)
alu_of op.Sha x y = arithmetic_shift x (y % 64)
