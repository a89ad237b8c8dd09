use Rattle.std.proofs.Common.{ℕ, ◌≤◌, ◌<◌, length, get_or}
use Rattle.value_domain.specs.Sets.{Among}
use Rattle.value_domain.proofs.Places.{Below}
use Rattle.value_domain.proofs.lattice.is_set_below_set.Given as goal

abbrev pub invariant-loop-x : goal.invariant-loop-x
invariant-loop-x l = record {
  end : l.k ≤ length l.words;
  among : (i : ℕ) → i < l.x-index → Among (get_or l.own i 0) l.words;
  below : l.x-index < length l.own → Below l.words l.k (get_or l.own l.x-index 0);
}
