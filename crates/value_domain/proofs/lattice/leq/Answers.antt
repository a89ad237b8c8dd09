use Rattle.value_domain.proofs.CoverLaws.{member_among, among_member}
use Rattle.value_domain.specs.declared.values.Val.TheVariants.{Span}
use Rattle.value_domain.proofs.lattice.leq.Goals as goal

pub is_below_span-requires-clause-step : goal.is_below_span-requires-clause-step
is_below_span-requires-clause-step c = let well = rw c.in-Span.is at c.requires.right in well.0

pub returns-in-Span : goal.returns-in-Span
returns-in-Span c = rw c.in-Span.is c.is_below_span.ensures

pub returns-in-Set-v : goal.returns-in-Set-v
returns-in-Set-v c =
    rw (c.in-Set.is, c.in-Set-v.is)
    (rw (c.as_slice-in-Set-v.ensures.items, c.as_slice.ensures.items) at c.is_set_below_set.ensures)

pub returns-in-Span-v : goal.returns-in-Span-v
returns-in-Span-v c =
    let well = rw c.in-Span-v.is at c.requires.left in
    let both = rw c.as_slice-in-Span-v.ensures.items at c.is_span_below_set.ensures in
    rw (c.in-Set.is, c.in-Span-v.is) (
      (λ t z m. both.0 t z (among_member (Span c.in-Span-v.lo c.in-Span-v.last c.in-Span-v.step) z well.0 m)),
      (λ below. both.1 (λ z i. below z (member_among (Span c.in-Span-v.lo c.in-Span-v.last c.in-Span-v.step) z well.0 i))),
    )
