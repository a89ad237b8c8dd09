use Rattle.std.proofs.Common.{◌<◌, get_or, refl, arith}
use Rattle.std.specs.Char.{digit_value}
use Rattle.std.proofs.lemmas.Int.Digits.{digits_value_more, digits_more}
use Rattle.std.proofs.lemmas.List.Folds.{list_all_more}
use Rattle.std.proofs.lemmas.Bool.{lt-ltb}
use Rattle.tcd_plan.specs.JsonValues.{is_json_hex}
use Rattle.tcd_base.proofs.HexDigits.{seven}
use Rattle.tcd_plan.proofs.json_values.json_hex_value.Goals as goal

pub overflow_mul-value : goal.overflow_mul-value
overflow_mul-value c = omega (arith, seven c.args.digits.now c.loop-c.c-index c.loop-c.invariant.digits (omega arith))

pub overflow_add-value : goal.overflow_add-value
overflow_add-value c = omega (arith, seven c.args.digits.now c.loop-c.c-index c.loop-c.invariant.digits (omega arith), c.in-Some.ensures.value.0, c.in-Some.ensures.value.1)

pub loop-c-preserved : goal.loop-c-preserved
loop-c-preserved c =
    let hex = c.in-Some.ensures.value in
    let at = c.from.ensures in
    let is : digit_value (get_or c.args.digits.now c.loop-c.c-index 0) < 16 = rw (← at) hex.0 in
    record {
      value = rw (digits_value_more 16 c.args.digits.now c.loop-c.c-index c.loop-c-test.true, ← c.loop-c.invariant.value, ← at, hex.1) refl;
      digits = digits_more 16 c.args.digits.now c.loop-c.c-index c.loop-c-test.true c.loop-c.invariant.digits is;
      hex = rw (list_all_more is_json_hex c.args.digits.now c.loop-c.c-index 0 c.loop-c-test.true, c.loop-c.invariant.hex) (lt-ltb _ 16 is);
    }
