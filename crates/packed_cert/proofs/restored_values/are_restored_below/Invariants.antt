use Rattle.std.proofs.Common.{ℕ, ◌≡◌, ◌<◌, ◌-◌, get_or, drop}
use Rattle.value_domain.specs.Values.{IsBelow, any_val}
use Rattle.depth_cert.specs.Exits.{values_after_return_from}
use Rattle.packed_cert.specs.ValuesInBytes.{values_in_bytes, ValuesBeginAt}
use Rattle.packed_cert.proofs.LowerLaws.{LeftBehind, lower_before}
use Rattle.packed_cert.proofs.restored_values.are_restored_below.Given as goal

abbrev pub invariant-loop-i : goal.invariant-loop-i
invariant-loop-i l = record {
  lower : LeftBehind l.lower.version l.lower.bytes.now l.lower.place (lower_before l.i) l.from;
  have : ValuesBeginAt l.high.version l.high.bytes.now l.at (27 - l.i);
  left : drop l.i (values_in_bytes l.high.version l.high.bytes.now l.high.place 27) ≡ values_in_bytes l.high.version l.high.bytes.now l.at (27 - l.i);
  below : (r : ℕ) → r < l.i → IsBelow (get_or (values_after_return_from 0 (values_in_bytes l.lower.version l.lower.bytes.now l.lower.place 14) l.regs) r any_val) (get_or (values_in_bytes l.high.version l.high.bytes.now l.high.place 27) r any_val);
}
