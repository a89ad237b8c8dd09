use Rattle.std.proofs.Common.{ℕ, ◌≡◌, ◌<◌, ◌-◌, get_or, drop}
use Rattle.value_domain.specs.Values.{IsInLattice, any_val}
use Rattle.packed_cert.specs.ValuesInBytes.{values_in_bytes, ValuesBeginAt}
use Rattle.packed_cert.proofs.values_at_places.are_values_at.Given as goal

abbrev pub invariant-loop-i : goal.invariant-loop-i
invariant-loop-i l = record {
  have : ValuesBeginAt l.version l.bytes l.at (l.n - l._i);
  left : drop l._i (values_in_bytes l.version l.bytes l.place l.n) ≡ values_in_bytes l.version l.bytes l.at (l.n - l._i);
  values : (r : ℕ) → r < l._i → IsInLattice l.b (get_or (values_in_bytes l.version l.bytes l.place l.n) r any_val);
}
