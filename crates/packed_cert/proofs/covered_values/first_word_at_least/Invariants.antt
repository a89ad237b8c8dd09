use Rattle.std.proofs.Common.{ℕ, ◌≤◌, ◌<◌, ◌+◌, ◌*◌, ◌-◌}
use Rattle.tcd_base.specs.Bytes.{word_in_bytes}
use Rattle.packed_cert.proofs.covered_values.first_word_at_least.Given as goal

abbrev pub invariant-loop-at : goal.invariant-loop-at
invariant-loop-at l = (l.k ≤ l.at) × (l.at ≤ l.n) × ((j : ℕ) → l.k ≤ j → j < l.at → word_in_bytes l.bytes (l.place + 4 * j) < l.x)

abbrev pub decreases-loop-at : goal.decreases-loop-at
decreases-loop-at l = l.n - l.at
