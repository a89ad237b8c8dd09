-- A printed number fits its field and is read as its value.
use Rattle.std.proofs.Common.{◌≡◌, ◌<◌, ◌-◌, ◌/◌, ◌%◌, ◌==◌, ◌&&◌, ℕ, Bool, true, false, cond, refl, arith}
use Rattle.std.specs.Prelude.{nat_lt, nat_le, not}
use Rattle.std.proofs.lemmas.Bool.Decides.{nat_tests}
use Rattle.tc_stmt.specs.OperandForms.{operand_number_modulo}
use Rattle.tc_stmt.specs.Filling.{is_within_field_bound}
use Rattle.tc_disasm.specs.Texts.{is_printed_negative, printed_magnitude}

pub fits-printed : (signed : Bool) (bound v : ℕ) → v < bound → bound % 2 ≡ 0 → is_within_field_bound signed bound (is_printed_negative signed bound v) (printed_magnitude signed bound v) ≡ true
unfolding is_within_field_bound
fits-printed true bound v h even = by_sign (nat_le (bound / 2) v) refl
  where
    by_sign : (b : Bool) → nat_le (bound / 2) v ≡ b → cond b (nat_le (cond b (bound - v) v) (bound / 2)) (nat_lt (cond b (bound - v) v) (bound / 2)) ≡ true
    by_sign true e = grind (arith, nat_tests)
    by_sign false e = grind (arith, nat_tests)
fits-printed false bound v h even = grind (arith, nat_tests)

pub wrapped-printed : (signed : Bool) (bound v : ℕ) → v < bound → bound % 2 ≡ 0 → operand_number_modulo bound (is_printed_negative signed bound v) (printed_magnitude signed bound v) ≡ v
wrapped-printed true bound v h even = by_sign (nat_le (bound / 2) v)
  where
    by_sign : (b : Bool) → cond (b && not (cond b (bound - v) v == 0)) (bound - cond b (bound - v) v) (cond b (bound - v) v) ≡ v
    by_sign true = grind (arith, nat_tests)
    by_sign false = refl
wrapped-printed false bound v h even = refl
