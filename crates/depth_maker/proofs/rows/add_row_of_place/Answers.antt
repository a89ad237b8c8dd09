use Rattle.std.proofs.Common.{refl, sym, ap, subst, ◌∙◌, ◌≡◌, ℕ, List, Option, Some}
use Rattle.indexmap.specs.IndexMap.{get}
use Rattle.frame_places.specs.Spots.{spot_eq}
use Rattle.frame_places.specs.declared.places.Spot.TheVariants.{Point}
use Rattle.small_states.specs.declared.known.Outline.{Outline}
use Rattle.depth_maker.specs.Rows.{IsRowOfOutline, HasListedOutline}
use Rattle.depth_maker.specs.declared.rows.KnownPoint.{KnownPoint}
use Rattle.depth_maker.proofs.PlainRows.{plain_point}
use Rattle.depth_maker.proofs.RowSteps.{draft_more, draft_same, index_there, number_there, row_moves}
use Rattle.depth_maker.proofs.rows.add_row_of_place.Goals as goal

pub returns-in_default-place : goal.returns-in_default-place
returns-in_default-place c =
    let s = c.args.source.now in
    draft_same s c.args.entry c.in-Some.place.now c.args.draft.now c.args.draft.now (index_there s.table.now.places c.args.entry c.in-Some.place.now c.in-Some.known.now c.in-Some.ensures.entry) c.requires.draft refl refl
    (λ k p e. absurd (c.in_default-place.not-Point k p e))

pub returns-then-has_listed_outline : goal.returns-then-has_listed_outline
returns-then-has_listed_outline c =
    let s = c.args.source.now in
    let k = c.in-Point.key in
    let p = c.in-Point.addr in
    let known = c.in-Some.known.now in
    let node = c.frame_number_with_hint-node.result in
    let b = subst (λ (l : List (Option Outline)). HasListedOutline l node known) c.as_slice.ensures.value (c.has_listed_outline.ensures c.if-has_listed_outline.true) in
    let at : get spot_eq s.table.now.places (Point k p) ≡ Some known = ap (get spot_eq s.table.now.places) (sym c.in-Point.is) ∙ c.in-Some.ensures.value in
    let number = number_there s c.requires.source k p known node at c.frame_number_with_hint-node.ensures in
    let r = (c.requires.draft).outlines node b.outline b.there in
    let row = plain_point s c.requires.source k p known b.outline r.0 at b.plain b.is (subst (λ (n : ℕ). IsRowOfOutline s n b.outline r.0) number r.2) in
    draft_same s c.args.entry c.in-Some.place.now c.args.draft.now _ (index_there s.table.now.places c.args.entry c.in-Some.place.now known c.in-Some.ensures.entry) c.requires.draft refl refl
    (λ j q e. (r.0, r.1, row_moves s r.0 k j p q (sym c.in-Point.is ∙ e) row))

pub add_point_row-requires-clause-at : goal.add_point_row-requires-clause-at
add_point_row-requires-clause-at c =
    let s = c.args.source.now in
    let k = c.in-Point.key in
    let p = c.in-Point.addr in
    let known = c.in-Some.known.now in
    let at : get spot_eq s.table.now.places (Point k p) ≡ Some known = ap (get spot_eq s.table.now.places) (sym c.in-Point.is) ∙ c.in-Some.ensures.value in
    record { known = at; node = number_there s c.requires.source k p known c.frame_number_with_hint-node.result at c.frame_number_with_hint-node.ensures }

pub returns : goal.returns
returns c =
    let s = c.args.source.now in
    let at : KnownPoint = record { key = c.in-Point.key; addr = c.in-Point.addr; node = c.frame_number_with_hint-node.result; known = c.in-Some.known } in
    draft_more s c.args.entry c.in-Some.place.now c.args.draft.now _ c.add_point_row.new.draft at (index_there s.table.now.places c.args.entry c.in-Some.place.now c.in-Some.known.now c.in-Some.ensures.entry) c.requires.draft refl refl
    c.in-Point.is c.in_ok-add_point_row.ensures
