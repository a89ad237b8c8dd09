-- Fields of words, and their extension by the sign.
use Rattle.std.specs.Prelude.{◌+◌, ◌-◌, ◌/◌, ◌%◌, ◌^◌, ℕ, nat_lt, if◌then◌else◌}

-- the bits hi down to lo of a number, both included
abbrev pub bits_of : ℕ → ℕ → ℕ → ℕ
bits_of x hi lo = x / 2 ^ lo % 2 ^ (hi - lo + 1)

-- a number of n bits in two's complement, as the word of 32 bits with the same value
abbrev pub sext_of : ℕ → ℕ → ℕ
sext_of x n = if nat_lt x (2 ^ (n - 1)) then x else x + 2 ^ 32 - 2 ^ n
