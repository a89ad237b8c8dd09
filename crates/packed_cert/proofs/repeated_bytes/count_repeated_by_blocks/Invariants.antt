use Rattle.std.proofs.Common.{◌≤◌, ◌-◌}
use Rattle.packed_cert.specs.RepeatedBytes.{AreBytesRepeated}
use Rattle.packed_cert.proofs.repeated_bytes.count_repeated_by_blocks.Given as goal

abbrev pub invariant-loop-i : goal.invariant-loop-i
invariant-loop-i l = record {
  within : l.i ≤ l.n;
  same : AreBytesRepeated l.bytes l.x l.y l.i;
}

abbrev pub decreases-loop-i : goal.decreases-loop-i
decreases-loop-i l = l.n - l.i
