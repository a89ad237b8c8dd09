use Rattle.std.proofs.Common.{◌≡◌, ◌≤◌, ◌++◌, ◌-◌, take, length}
use Rattle.value_domain.specs.Values.{cover, members, IsInLattice}
use Rattle.value_domain.proofs.lattice.join_word_list.Given as goal

abbrev pub invariant-loop-i : goal.invariant-loop-i
invariant-loop-i l = (l.i ≤ length l.words) × (l.v ≡ cover l.b (members l.initial.v ++ take l.i l.words)) × IsInLattice l.b l.v

abbrev pub decreases-loop-i : goal.decreases-loop-i
decreases-loop-i l = length l.words - l.i
