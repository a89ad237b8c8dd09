-- Products of small numbers.
use Rattle.std.proofs.Common.{◌<◌, ◌*◌, ◌^◌, ℕ, arith}
use Rattle.std.proofs.lemmas.Nat.{mul-lt}

pub small_times : (n b : ℕ) → n < 2 ^ 64 → b < 2 ^ 8 → n * b < 2 ^ 72
small_times n b small few = omega (arith, mul-lt n b (2 ^ 64) (2 ^ 8) small few)
