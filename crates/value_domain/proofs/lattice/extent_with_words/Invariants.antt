use Rattle.std.proofs.Common.{List, ℕ, min, take, ◌++◌}
use Rattle.value_domain.specs.Sets.{alignment_log2, IsExtent}
use Rattle.value_domain.proofs.lattice.extent_with_words.Given as goal

abbrev pub invariant-loop-x : goal.invariant-loop-x
invariant-loop-x l = (xs : List ℕ) → IsExtent xs l.e.least l.e.greatest l.e.step → IsExtent (xs ++ take l.x-index l.words) l.least l.greatest (min (alignment_log2 l.bits) l.e.step)
