-- A printed target is read as its displacement.
use Rattle.std.proofs.Common.{◌≡◌, ◌<◌, ◌*◌, ◌-◌, ◌/◌, ◌%◌, ℕ, Bool, true, false, cond, refl, arith}
use Rattle.std.specs.Prelude.{nat_lt, nat_le}
use Rattle.std.proofs.lemmas.Bool.Decides.{nat_tests}
use Rattle.tc_disasm.specs.Texts.{is_printed_negative, printed_magnitude}

-- a signed displacement isn't far
pub near_signed : (bound v : ℕ) → v < bound → bound % 2 ≡ 0 → cond (is_printed_negative true bound v) (nat_lt bound (2 * printed_magnitude true bound v)) (nat_lt (bound - 2) (2 * printed_magnitude true bound v)) ≡ false
near_signed bound v h even = by_sign (nat_le (bound / 2) v) refl
  where
    by_sign : (b : Bool) → nat_le (bound / 2) v ≡ b → cond b (nat_lt bound (2 * cond b (bound - v) v)) (nat_lt (bound - 2) (2 * cond b (bound - v) v)) ≡ false
    by_sign true e = grind (arith, nat_tests)
    by_sign false e = grind (arith, nat_tests)

pub near_unsigned : (bound v : ℕ) → v < bound → nat_lt (2 * (bound - 1)) (2 * v) ≡ false
near_unsigned bound v h = grind (arith, nat_tests)

pub half : (n : ℕ) → 2 * n / 2 ≡ n
half n = omega arith
