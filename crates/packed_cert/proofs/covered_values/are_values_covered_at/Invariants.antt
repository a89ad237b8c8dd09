use Rattle.std.proofs.Common.{ℕ, ◌≡◌, ◌<◌, ◌-◌, get_or, drop}
use Rattle.value_domain.specs.Values.{IsBelow, any_val}
use Rattle.packed_cert.specs.ToCover.{values_to_cover}
use Rattle.packed_cert.specs.ValuesInBytes.{values_in_bytes, ValuesBeginAt}
use Rattle.packed_cert.proofs.covered_values.are_values_covered_at.Given as goal

abbrev pub invariant-loop-i : goal.invariant-loop-i
invariant-loop-i l = record {
  have : ValuesBeginAt l.version l.bytes l.at (l.n - l.i);
  left : drop l.i (values_in_bytes l.version l.bytes l.place l.n) ≡ values_in_bytes l.version l.bytes l.at (l.n - l.i);
  below : (r : ℕ) → r < l.i → IsBelow (get_or (values_to_cover l.values) r any_val) (get_or (values_in_bytes l.version l.bytes l.place l.n) r any_val);
}
