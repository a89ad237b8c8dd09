use Rattle.std.proofs.Common.{◌≡◌, ◌++◌, take, length}
use Rattle.value_domain.specs.Values.{members}
use Rattle.value_domain.specs.Sets.{IsExtent}
use Rattle.vd_transfer.specs.Operations.{results_of_pairs}
use Rattle.vd_transfer.proofs.operations.join_results_into_span.Given as goal

abbrev pub invariant-loop-x : goal.invariant-loop-x
invariant-loop-x l = record {
  extent : IsExtent (members l.v ++ results_of_pairs l.op (take l.x-index l.xs) l.ys) l.e.least l.e.greatest l.e.step;
  room : length l.row ≡ length l.ys;
}
