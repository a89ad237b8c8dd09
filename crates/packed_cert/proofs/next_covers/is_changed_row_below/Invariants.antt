use Rattle.std.proofs.Common.{◌≡◌, ◌<◌, ◌≤◌, ◌-◌, ℕ, get_or, drop}
use Rattle.value_domain.specs.Values.{IsBelow, any_val}
use Rattle.vd_transfer.specs.Changes.{state_after}
use Rattle.packed_cert.specs.PointsInBytes.{state_in_bytes}
use Rattle.packed_cert.specs.ValuesInBytes.{values_in_bytes, ValuesBeginAt}
use Rattle.packed_cert.proofs.next_covers.is_changed_row_below.Given as goal

abbrev pub invariant-loop-i : goal.invariant-loop-i
invariant-loop-i l = record {
  have : 0 < l.fn.point.row.behind → ValuesBeginAt l.version l.bytes l.at (27 - l.i);
  left : 0 < l.fn.point.row.behind → drop l.i (state_in_bytes l.version l.bytes l.fn.point.place).regs ≡ values_in_bytes l.version l.bytes l.at (27 - l.i);
  below : (k : ℕ) → l.fn.point.row.first ≤ k → k < l.i → IsBelow (get_or (state_after l.s l.c).regs k any_val) (get_or (state_in_bytes l.version l.bytes l.fn.point.place).regs k any_val);
}
