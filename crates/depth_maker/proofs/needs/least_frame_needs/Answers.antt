use Rattle.std.proofs.Common.{subst, sym, refl, ℕ, length, Option, Some}
use Rattle.std.specs.Prelude.{IfSome, Ok}
use Rattle.std.specs.declared.alloc.Global.{Global}
use Rattle.std.specs.declared.vec.Vec.{Vec}
use Rattle.frame_places.specs.NodeGraph.{AreEdgesOfRows}
use Rattle.frame_places.specs.RowNeeds.{IsLeastNeedsResult}
use Rattle.depth_maker.proofs.NeedSteps.{source_within, source_needs}
use Rattle.depth_maker.proofs.RowSteps.{rows_again}
use Rattle.depth_maker.proofs.needs.least_frame_needs.Goals as goal

pub needs_in_few_passes-requires-clause-within : goal.needs_in_few_passes-requires-clause-within
needs_in_few_passes-requires-clause-within c =
    source_within c.args.source.now c.as_slice-frames.result.now c.as_slice.result.now c.requires c.as_slice-frames.ensures.value
    (rows_again c.args.source.now c.in_ok-rows.rows.items _ c.as_slice.result.now c.as_slice.ensures.value c.sort_by_key.ensures.permutation c.in_ok-rows.ensures)

pub returns-in-Some : goal.returns-in-Some
returns-in-Some c =
    source_needs c.args.source.now c.as_slice-frames.result.now c.as_slice.result.now c.need_limit-cap.result c.requires c.as_slice-frames.ensures.value
    (rows_again c.args.source.now c.in_ok-rows.rows.items _ c.as_slice.result.now c.as_slice.ensures.value c.sort_by_key.ensures.permutation c.in_ok-rows.ensures) c.need_limit-cap.ensures.areas (Some c.in-Some.found)
    (subst (λ (o : Option (Vec ℕ Global)). IfSome o (λ needs. IsLeastNeedsResult (length c.as_slice-frames.result.now) c.as_slice.result.now c.need_limit-cap.result (Ok (Some needs)))) c.in-Some.is c.in_ok-soon.ensures)

pub first_recursion-requires-clause-edges : goal.first_recursion-requires-clause-edges
first_recursion-requires-clause-edges c = (
  c.as_slice-2.result.now,
  rows_again c.args.source.now c.in_ok-rows.rows.items _ c.as_slice-2.result.now c.as_slice-2.ensures.value c.sort_by_key.ensures.permutation c.in_ok-rows.ensures,
  subst (AreEdgesOfRows c.as_slice-2.result.now) (sym c.as_slice-4.ensures.keys) c.in_ok-edges.ensures,
)

pub least_needs_from_rows-requires-clause-rows : goal.least_needs_from_rows-requires-clause-rows
least_needs_from_rows-requires-clause-rows c =
    rows_again c.args.source.now c.sort_by_key.new.self.items _ c.as_slice-6.result.now c.as_slice-6.ensures.value c.sort_by_key-2.ensures.permutation
    (rows_again c.args.source.now c.in_ok-rows.rows.items _ _ refl c.sort_by_key.ensures.permutation c.in_ok-rows.ensures)
