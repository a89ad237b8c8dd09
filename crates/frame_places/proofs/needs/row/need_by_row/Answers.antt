use Rattle.std.proofs.Common.{◌≡◌, ℕ, ◌+◌, ◌<◌, ◌≤◌, length, List, take, slice_index_or, arith, max, sym, subst}
use Rattle.std.specs.Prelude.{slice_index, Contains}
use Rattle.std.proofs.lemmas.List.Elements.{Contains-get_or}
use Rattle.std.proofs.lemmas.List.{take_more, take_all}
use Rattle.frame_places.proofs.RowLemmas.{AsksSoFar, asks_more}
use Rattle.frame_places.proofs.needs.row.need_by_row.Goals as goal

pub offset_bounds-needs-t : goal.offset_bounds-needs-t
offset_bounds-needs-t c =
    let h = subst (λ (l : List ℕ). Contains l (slice_index_or c.deref-t-items.result.now c.loop-t.t-index 0)) c.deref-t-items.ensures.value (Contains-get_or c.deref-t-items.result.now c.loop-t.t-index 0 c.loop-t-test.true) in
    let b = c.requires.into _ h in omega (arith, b)

pub bounds-needs-t : goal.bounds-needs-t
bounds-needs-t c =
    c.requires.into _ (subst (λ (l : List ℕ). Contains l (slice_index_or c.deref-t-items.result.now c.loop-t.t-index 0)) c.deref-t-items.ensures.value (Contains-get_or c.deref-t-items.result.now c.loop-t.t-index 0 c.loop-t-test.true))

pub loop-t-preserved : goal.loop-t-preserved
loop-t-preserved c =
    let L = c.args.row.now.into.items in
    let i = c.loop-t.t-index in
    let lt : i < length L = subst (λ (l : List ℕ). i < length l) c.deref-t-items.ensures.value c.loop-t-test.true in
    let has = Contains-get_or L i 0 lt in
    let plain : c.max-need.result ≡ max c.loop-t.need (c.args.row.now.held + 1 + slice_index c.args.needs.now (slice_index_or c.deref-t-items.result.now i 0)) = omega (arith, c.max-need.ensures, c.from.ensures) in
    let is = subst (λ (l : List ℕ). c.max-need.result ≡ max c.loop-t.need (c.args.row.now.held + 1 + slice_index c.args.needs.now (slice_index_or l i 0))) c.deref-t-items.ensures.value plain in
    subst (λ (l : List ℕ). AsksSoFar c.args.needs.now c.args.row.now c.args.cap l c.max-need.result) (sym (take_more L i 0 lt))
    (asks_more c.args.needs.now c.args.row.now c.args.cap (take i L) c.loop-t.need c.max-need.result (slice_index_or L i 0) c.loop-t.invariant has
    (c.requires.into _ has) (c.requires.low (slice_index_or L i 0)) is)

pub returns-clause-into : goal.returns-clause-into
returns-clause-into c = λ t has.
    let L = c.args.row.now.into.items in
    let i = c.loop-t.t-index in
    let le : length L ≤ i = subst (λ (l : List ℕ). length l ≤ i) c.deref-t-items.ensures.value c.loop-t-test.false in
    let h = c.loop-t.invariant.into t (subst (λ (l : List ℕ). Contains l t) (sym (take_all i L le)) has) in
    omega (arith, h, c.min.ensures)
