use Rattle.std.proofs.Common.{◌≡◌, true, false, inl, inr, arith, get_or}
use Rattle.std.proofs.lemmas.Bool.{leb-true, le-leb}
use Rattle.packed_cert.proofs.ValueShapes.{stands_at, long_span, span_exact}
use Rattle.packed_cert.proofs.covered_values.is_below_span_at.Goals as goal

pub bounds-bytes-place : goal.bounds-bytes-place
bounds-bytes-place c = (stands_at c.args.version c.args.bytes.now c.args.place (λ k. (c.type_inv.bytes k).fits) c.requires.stands).inside

pub overflow_sub-step : goal.overflow_sub-step
overflow_sub-step c = ((stands_at c.args.version c.args.bytes.now c.args.place (λ k. (c.type_inv.bytes k).fits) c.requires.stands).shape.span c.requires.span).0

pub word_at_offset-lo-requires : goal.word_at_offset-lo-requires
word_at_offset-lo-requires c =
    let s = stands_at c.args.version c.args.bytes.now c.args.place (λ k. (c.type_inv.bytes k).fits) c.requires.stands in
    omega (arith, s.within, long_span (get_or c.args.bytes.now c.args.place 0) c.requires.span)

pub word_at_offset-last-requires : goal.word_at_offset-last-requires
word_at_offset-last-requires c =
    let s = stands_at c.args.version c.args.bytes.now c.args.place (λ k. (c.type_inv.bytes k).fits) c.requires.stands in
    omega (arith, s.within, long_span (get_or c.args.bytes.now c.args.place 0) c.requires.span)

pub returns-then-e-lo : goal.returns-then-e-lo
returns-then-e-lo c =
    let s = stands_at c.args.version c.args.bytes.now c.args.place (λ k. (c.type_inv.bytes k).fits) c.requires.stands in
    let both = span_exact c.args.version c.args.v.now _ _ _ _ (s.shape.span c.requires.span).1 c.requires.well s.well c.extent_of-e.ensures in (
      (λ t. absurd (let g : false ≡ true = t in cc)),
      (λ below. let inside = both.1 below in elim c.then-e-lo.either [ inl low ↦ absurd (omega (arith, c.word_at_offset-lo.ensures, inside.0)) | inr high ↦ absurd (omega (arith, c.word_at_offset-last.ensures, inside.1)) ]),
    )

pub returns : goal.returns
returns c =
    let s = stands_at c.args.version c.args.bytes.now c.args.place (λ k. (c.type_inv.bytes k).fits) c.requires.stands in
    let both = span_exact c.args.version c.args.v.now _ _ _ _ (s.shape.span c.requires.span).1 c.requires.well s.well c.extent_of-e.ensures in
    ((λ t. both.0 (omega (arith, c.word_at_offset-lo.ensures)) (omega (arith, c.word_at_offset-last.ensures)) (leb-true _ _ t)), (λ below. le-leb _ _ (both.1 below).2))
