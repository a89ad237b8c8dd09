use Rattle.std.proofs.Common.{ℕ, ◌≤◌, ◌<◌, ◌*◌}
use Rattle.value_domain.specs.Sets.{Among}
use Rattle.value_domain.proofs.lattice.is_span_below_set.Given as goal

abbrev pub invariant-loop-k : goal.invariant-loop-k
invariant-loop-k l = (j : ℕ) → l.start ≤ j → j < l.k → Among (j * l.unit) l.words
