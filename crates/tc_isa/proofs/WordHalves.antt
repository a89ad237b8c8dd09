-- A word from its halves: the upper one is shifted, and the lower one added as a signed number.
use Rattle.std.proofs.Common.{◌≡◌, ℕ, ◌+◌, ◌*◌, ◌%◌, ◌^◌, ◌<◌, inl, inr, arith}
use Rattle.std.proofs.lemmas.Bool.{cases_lt, lt-ltb, le-ltb}
use Rattle.tc_isa.specs.Arithmetic.{sign_extended}
use Rattle.tc_isa.specs.NamedInstructions.{adjusted_upper_half, lower_half}

pub halves_join : (x : ℕ) → x < 2 ^ 32 → (adjusted_upper_half x * 2 ^ 16 % 2 ^ 32 + sign_extended 16 (lower_half x % 2 ^ 16)) % 2 ^ 32 ≡ x
halves_join x h =
    elim (cases_lt (lower_half x % 2 ^ 16) (2 ^ 15)) [
      | inl low ↦ rw (lt-ltb (lower_half x % 2 ^ 16) (2 ^ 15) low) (omega arith)
      | inr high ↦ rw (le-ltb (lower_half x % 2 ^ 16) (2 ^ 15) high) (omega arith)
    ]
