use Rattle.store_ranges.proofs.StoreLaws.{set_stores, stores_set, span_stores, stores_span, first_fits}
use Rattle.store_ranges.proofs.stores.store_ok.Goals as goal

pub is_span_store_in_range-requires-clause-least : goal.is_span_store_in_range-requires-clause-least
is_span_store_in_range-requires-clause-least c =
    let well = rw c.in-Span.is at c.requires.well in
    let e = rw c.in-Span.is at c.extent_of.ensures in
    first_fits c.in-Span.lo c.in-Span.last c.in-Span.step well e

pub returns-in-Set : goal.returns-in-Set
returns-in-Set c =
    let both = rw c.as_slice.ensures.items at c.are_stores_in_range.ensures in
    rw c.in-Set.is (
      (λ t. set_stores c.args.plan.now c.in-Set.words c.args.size (both.0 t)),
      (λ each. both.1 (stores_set c.args.plan.now c.in-Set.words c.args.size each)),
    )

pub returns-in-Span : goal.returns-in-Span
returns-in-Span c =
    let well = rw c.in-Span.is at c.requires.well in
    let e = rw c.in-Span.is at c.extent_of.ensures in
    rw c.in-Span.is (
      (λ t. span_stores c.args.plan.now c.in-Span.lo c.in-Span.last c.in-Span.step c.args.size well e (c.is_span_store_in_range.ensures.0 t)),
      (λ each. c.is_span_store_in_range.ensures.1 (stores_span c.args.plan.now c.in-Span.lo c.in-Span.last c.in-Span.step c.args.size well e each)),
    )
