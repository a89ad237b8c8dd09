use Rattle.std.proofs.Common.{ℕ, ◌≤◌, ◌<◌, length, get_or}
use Rattle.value_domain.specs.Sets.{Among}
use Rattle.packed_cert.specs.ValuesInBytes.{words_in_bytes}
use Rattle.packed_cert.proofs.BelowLaws.{Below}
use Rattle.packed_cert.proofs.covered_values.are_words_in_set_at.Given as goal

abbrev pub invariant-loop-x : goal.invariant-loop-x
invariant-loop-x l = record {
  end : l.k ≤ l.n;
  among : (i : ℕ) → i < l.x-index → Among (get_or l.own i 0) (words_in_bytes l.bytes l.place l.n);
  below : l.x-index < length l.own → Below l.bytes l.place l.k (get_or l.own l.x-index 0);
}
