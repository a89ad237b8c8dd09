use Rattle.std.proofs.Common.{◌≡◌, ◌<◌, ◌≤◌, ◌-◌, ◌⊎◌, ℕ, get_or, drop, length}
use Rattle.value_domain.specs.Values.{any_val}
use Rattle.packed_cert.specs.PointsInBytes.{state_in_bytes}
use Rattle.packed_cert.specs.ValuesInBytes.{values_in_bytes, ValuesBeginAt}
use Rattle.packed_cert.proofs.walks.read_row_values.Given as goal

abbrev pub invariant-loop-i : goal.invariant-loop-i
invariant-loop-i l = record {
  count : length l.out ≡ 27;
  have : 0 < l.fn.point.row.behind → ValuesBeginAt l.version l.bytes l.at (27 - l.i);
  left : 0 < l.fn.point.row.behind → drop l.i (state_in_bytes l.version l.bytes l.fn.point.place).regs ≡ values_in_bytes l.version l.bytes l.at (27 - l.i);
  done : (k : ℕ) → k < 27 → (k < l.i) ⊎ (l.fn.point.row.behind ≤ k) → get_or l.out k any_val ≡ get_or (state_in_bytes l.version l.bytes l.fn.point.place).regs k any_val;
}
