use Rattle.std.proofs.Common.{ℕ, ◌<◌, get_or}
use Rattle.value_domain.specs.Values.{IsInLattice, any_val}
use Rattle.depth_check.proofs.points.are_in_lattice.Given as goal

abbrev pub invariant-loop-v : goal.invariant-loop-v
invariant-loop-v l = (r : ℕ) → r < l.v-index → IsInLattice l.b (get_or l.vs r any_val)
