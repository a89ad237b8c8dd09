use Rattle.std.proofs.Common.{◌≡◌, ◌+◌, ◌*◌, ◌<◌, ℕ, length, get_or}
use Rattle.tcd_base.specs.Bytes.{word_in_bytes}
use Rattle.packed_cert.proofs.values_at_places.read_set_at_offset.Given as goal

abbrev pub invariant-loop-i : goal.invariant-loop-i
invariant-loop-i g l = record {
  count : length l.words ≡ g.row.N;
  each : (j : ℕ) → j < l.i → get_or l.words j 0 ≡ word_in_bytes l.bytes (l.place + 4 * j);
}
