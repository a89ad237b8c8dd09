use Rattle.std.proofs.Common.{◌<◌, ℕ, get_or, refl, arith, sym, ltb}
use Rattle.std.specs.Char.{digit_value}
use Rattle.std.proofs.lemmas.Int.Digits.{digits_value_more, digits_more}
use Rattle.std.proofs.lemmas.List.Folds.{list_all_more}
use Rattle.std.proofs.lemmas.Bool.{ltb-true}
use Rattle.tcd_text.specs.HexNumbers.{is_upper_hex}
use Rattle.tcd_base.proofs.HexDigits.{seven}
use Rattle.tcd_text.proofs.HexLaws.{chosen}
use Rattle.tcd_text.proofs.hex_numbers.upper_hex_digits_value.Goals as goal

pub overflow_mul-value : goal.overflow_mul-value
overflow_mul-value c = omega (arith, seven c.args.digits.now c.loop-c.c-index c.loop-c.invariant.digits (omega arith))

pub overflow_add-value : goal.overflow_add-value
overflow_add-value c =
    let x : ℕ = get_or c.args.digits.now c.loop-c.c-index 0 in
    let digit = chosen (ltb (digit_value x) 16) (ltb x 97) (digit_value x) c.in-Some.digit (sym c.in-Some.ensures) in
    omega (arith, seven c.args.digits.now c.loop-c.c-index c.loop-c.invariant.digits (omega arith), ltb-true (digit_value x) 16 digit.0, digit.2)

pub loop-c-preserved : goal.loop-c-preserved
loop-c-preserved c =
    let x : ℕ = get_or c.args.digits.now c.loop-c.c-index 0 in
    let digit = chosen (ltb (digit_value x) 16) (ltb x 97) (digit_value x) c.in-Some.digit (sym c.in-Some.ensures) in
    let is : digit_value (get_or c.args.digits.now c.loop-c.c-index 0) < 16 = ltb-true (digit_value x) 16 digit.0 in
    record {
      value = rw (digits_value_more 16 c.args.digits.now c.loop-c.c-index c.loop-c-test.true, ← c.loop-c.invariant.value, digit.2) refl;
      digits = digits_more 16 c.args.digits.now c.loop-c.c-index c.loop-c-test.true c.loop-c.invariant.digits is;
      hex = rw (list_all_more is_upper_hex c.args.digits.now c.loop-c.c-index 0 c.loop-c-test.true, c.loop-c.invariant.hex, digit.0, digit.1) refl;
    }
