use Rattle.std.proofs.Common.{◌≡◌, ◌∷◌, take, get_or}
use Rattle.value_domain.specs.Values.{cover, IsInLattice}
use Rattle.tc_isa.specs.Arithmetic.{alu_of}
use Rattle.vd_transfer.specs.Operations.{results_of_pairs}
use Rattle.vd_transfer.proofs.operations.write_results_of_few_pairs.Given as goal

abbrev pub invariant-loop-x : goal.invariant-loop-x
invariant-loop-x l = record {
  cover : l.out ≡ cover l.b (alu_of l.op (get_or l.xs 0 0) (get_or l.ys 0 0) ∷ results_of_pairs l.op (take l.x-index l.xs) l.ys);
  value : IsInLattice l.b l.out;
}
