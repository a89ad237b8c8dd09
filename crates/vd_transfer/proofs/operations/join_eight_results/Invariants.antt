use Rattle.std.proofs.Common.{◌≡◌, ◌++◌, take}
use Rattle.value_domain.specs.Values.{cover, members, IsInLattice}
use Rattle.vd_transfer.specs.Operations.{HasMembers}
use Rattle.vd_transfer.proofs.operations.join_eight_results.Given as goal

abbrev pub invariant-loop-j : goal.invariant-loop-j
invariant-loop-j l = record {
  cover : l.v ≡ cover l.b (members l.initial.v ++ take l.j l.words);
  value : IsInLattice l.b l.v;
  met : HasMembers l.v l.met;
  eights : HasMembers l.v l.eights;
}
