use Rattle.std.proofs.Common.{◌≡◌, ◌++◌, take, map}
use Rattle.value_domain.specs.Values.{cover, members, IsInLattice}
use Rattle.tc_isa.specs.Arithmetic.{alu_of}
use Rattle.vd_transfer.proofs.operations.join_results_of_word.Given as goal

abbrev pub invariant-loop-y : goal.invariant-loop-y
invariant-loop-y l = record {
  cover : l.v ≡ cover l.b (members l.initial.v ++ take l.y-index (map (alu_of l.op l.x) l.ys));
  value : IsInLattice l.b l.v;
}
