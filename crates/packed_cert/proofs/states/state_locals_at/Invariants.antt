use Rattle.std.proofs.Common.{◌≡◌, ◌+◌, ◌-◌, ◌++◌, length}
use Rattle.packed_cert.specs.PointsInBytes.{flags_in_bytes}
use Rattle.packed_cert.proofs.states.state_locals_at.Given as goal

abbrev pub invariant-loop-i : goal.invariant-loop-i
invariant-loop-i l = record {
  read : l.flags.items ++ flags_in_bytes l.bytes (l.place + l.i) (l.count - l.i) ≡ flags_in_bytes l.bytes l.place l.count;
  count : length l.flags.items ≡ l.i;
}
