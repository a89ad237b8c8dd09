use Rattle.std.proofs.Common.{◌≡◌, ◌≤◌, ◌-◌, ◌∷◌, take, get_or, length}
use Rattle.value_domain.specs.Values.{cover, IsInLattice}
use Rattle.tc_isa.specs.Arithmetic.{alu_of}
use Rattle.vd_transfer.specs.Operations.{results_of_pairs, HasMembers}
use Rattle.vd_transfer.proofs.operations.write_results_of_many_pairs.Given as goal

abbrev pub invariant-loop-i : goal.invariant-loop-i
invariant-loop-i l = record {
  within : l.i ≤ length l.xs;
  cover : l.out ≡ cover l.b (alu_of l.op (get_or l.xs 0 0) (get_or l.ys 0 0) ∷ results_of_pairs l.op (take l.i l.xs) l.ys);
  value : IsInLattice l.b l.out;
  met : HasMembers l.out l.met;
  eights : HasMembers l.out l.eights;
}

abbrev pub decreases-loop-i : goal.decreases-loop-i
decreases-loop-i l = length l.xs - l.i
