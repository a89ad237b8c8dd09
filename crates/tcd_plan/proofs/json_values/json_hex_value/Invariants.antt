use Rattle.std.proofs.Common.{◌≡◌, take, true}
use Rattle.std.specs.List.{list_all}
use Rattle.std.specs.Str.Parse.{digits_value, AllDigits}
use Rattle.tcd_plan.specs.JsonValues.{is_json_hex}
use Rattle.tcd_plan.proofs.json_values.json_hex_value.Given as goal

abbrev pub invariant-loop-c : goal.invariant-loop-c
invariant-loop-c l = record {
  value : l.value ≡ digits_value 16 (take l.c-index l.digits);
  digits : AllDigits 16 (take l.c-index l.digits);
  hex : list_all is_json_hex (take l.c-index l.digits) ≡ true;
}
