use Rattle.std.proofs.Common.{refl}
use Rattle.vd_transfer.specs.Operations.{possible_results}
use Rattle.vd_transfer.proofs.operations.write_operation_value.Goals as goal

pub returns-in-Set-w-clause-cover : goal.returns-in-Set-w-clause-cover
unfolding possible_results
returns-in-Set-w-clause-cover c = rw (c.in-Set.is, c.in-Set-w.is, c.write_results_of_pairs.ensures.cover, c.as_slice.ensures.items, c.as_slice-in-Set-w.ensures.items) refl

pub returns-in-Span-w-clause-cover : goal.returns-in-Span-w-clause-cover
unfolding possible_results
returns-in-Span-w-clause-cover c = rw c.write_results_by_extents.ensures.cover (rw (c.in-Set.is, c.in-Span-w.is) refl)

pub returns-in-Span-clause-cover : goal.returns-in-Span-clause-cover
unfolding possible_results
returns-in-Span-clause-cover c = rw c.write_results_by_extents-in-Span.ensures.cover (rw (c.in-Span.is) refl)
