use Rattle.std.proofs.Common.{◌≡◌, ◌-◌, length}
use Rattle.value_domain.specs.Sets.{multiples}
use Rattle.value_domain.proofs.lattice.write_cover_as_set.Given as goal

abbrev pub invariant-loop-k : goal.invariant-loop-k
invariant-loop-k l = (l.words.items ≡ multiples (l.k - l.start) l.start l.unit) × (length l.words.items ≡ l.k - l.start)
