-- Rows of points, one after another.
use Rattle.std.proofs.Common.{◌≡◌, ◌⊎◌, inl, inr, ℕ, zero, suc, ◌+◌, ◌<◌, ◌≤◌, List, [], ◌∷◌, ◌++◌, length, take, set, replicate, Option, Some, None, IsSome, refl, sym, ap, ◌∙◌, subst, arith, Contains, IsPermutation, slice_get}
use Rattle.std.specs.Prelude.{map}
use Rattle.std.specs.Option.{option_map}
use Rattle.std.specs.declared.alloc.Global.{Global}
use Rattle.std.specs.declared.vec.Vec.{Vec}
use Rattle.std.proofs.lemmas.Bool.{cases_eq}
use Rattle.std.proofs.lemmas.List.{get_or-set_other, get_or-set_same, length-set, take_all, take_more}
use Rattle.std.proofs.lemmas.List.Elements.{Contains-append_left, Contains-push, Contains-push_cases}
use Rattle.std.proofs.lemmas.List.Sorted.{Contains-permutation, IsPermutation-sym}
use Rattle.std.proofs.lemmas.Option.{get_or_from_slice_get, slice_get-get_or, slice_get-map, slice_get_within}
use Rattle.indexmap.specs.IndexMap.{IndexMap, get, keys}
use Rattle.depth_cert.specs.Known.{IsKnownState, Known, state, leaving}
use Rattle.small_states.specs.declared.known.Outline.{Outline}
use Rattle.frame_places.specs.Marks.{value_of_place}
use Rattle.frame_places.specs.Numbers.{AreFrameNumbers, frame_number_in}
use Rattle.frame_places.specs.declared.places.Marked.{Marked}
use Rattle.value_domain.specs.declared.states.State.{State}
use Rattle.depth_cert.specs.declared.keys.Key.{Key}
use Rattle.cfg_recover.specs.Assignments.{point, exit}
use Rattle.depth_cert.specs.WellFormed.{IsWellFormedKnown}
use Rattle.depth_maker.specs.Rows.{IsRowOfPoint, AddsPointRow, AreRowFramesAmong, OutlinesHaveRows, HasRowsOfFirst, IsTablePoint, IsRowOfOutline, IsRowOfTablePoint, HasFinishedTable, AreRowsOfTable}
use Rattle.depth_maker.specs.TableInvariant.{IsLeastFixpointTable}
use Rattle.depth_maker.specs.TableView.{view_of_table}
use Rattle.frame_places.specs.Spots.{spot_eq}
use Rattle.depth_maker.specs.SpotsAsPlaces.{place_of_spot}
use Rattle.depth_maker.proofs.Lawful.{lawful}
use Rattle.depth_maker.proofs.PlaceKinds.{IsOfKind, derived_kinds}
use Rattle.depth_maker.proofs.PlaceLaws.{one_state}
use Rattle.depth_maker.proofs.PointEntries.{has_entry}
use Rattle.depth_maker.proofs.RowLaws.{known_frame, enters_of, entered_frame}
use Rattle.depth_maker.proofs.TableLaws.{derived_well_formed}
use Rattle.depth_maker.specs.declared.inputs_and_limits.Ground.{Ground}
use Rattle.depth_maker.specs.declared.inputs_and_limits.Visit.{Visit}
use Rattle.frame_places.specs.declared.places.Spot.{Spot}
use Rattle.frame_places.specs.declared.places.Spot.TheVariants.{Point, Exit}
use Rattle.frame_places.specs.declared.needs.row.NeedRow.{NeedRow}
use Rattle.depth_maker.specs.declared.rows.RowsDraft.{RowsDraft}
use Rattle.depth_maker.specs.declared.rows.KnownPoint.{KnownPoint}
use Rattle.depth_maker.specs.declared.rows.Source.{Source}
use Rattle.depth_maker.specs.declared.table.Table as made

-- what is known in a table without work is at the limits, and at a point it is a state
pub done_well_formed : (g : Ground) (t : made.Table) → IsLeastFixpointTable g t → (q : Spot) (v : Known) → value_of_place t.places q ≡ Some v → IsWellFormedKnown g.bounds.now v
unfolding view_of_table
done_well_formed g t done (Point k p) v at = derived_well_formed _ _ _ (lawful _ _ _ g.sound) (view_of_table t).cells done.derived (point k p) v at
done_well_formed g t done (Exit k) v at = derived_well_formed _ _ _ (lawful _ _ _ g.sound) (view_of_table t).cells done.derived (exit k) v at

pub done_state : (g : Ground) (t : made.Table) → IsLeastFixpointTable g t → (k : Key) (p : ℕ) (w : Known) → value_of_place t.places (Point k p) ≡ Some w → (u : State) × (w ≡ state u)
unfolding view_of_table
done_state g t done k p w at = of_kind w (derived_kinds _ _ _ (view_of_table t).cells done.derived (point k p) w at) where
  of_kind : (v : Known) → IsOfKind (point k p) v → (u : State) × (v ≡ state u)
  of_kind (state s) h = (s, refl)
  of_kind (leaving x) h = absurd h

-- a state that was read is the known one
pub read_there : (g : Ground) (t : made.Table) → IsLeastFixpointTable g t → (k : Key) (p : ℕ) (w : Known) (u : State) → value_of_place t.places (Point k p) ≡ Some w → IsKnownState w u → value_of_place t.places (Point k p) ≡ Some (state u)
read_there g t done k p w u at is =
    let e = done_state g t done k p w at in
    let same : u ≡ e.0 = subst (λ (v : Known). IsKnownState v u) e.1 is in
    at ∙ ap (λ (v : Known). Some v) (e.1 ∙ ap state (sym same))

-- the frames of a point, and those that it enters, are known
pub all_known : (v : Visit) (t : made.Table) → IsLeastFixpointTable v.ground.now t → (view_of_table t).cells (point v.key v.addr) ≡ Some (state v.state.now) → AreRowFramesAmong v t.frames.items
unfolding view_of_table
all_known v t done at =
    let c = (done.counted).each in
    record {
      own = known_frame _ _ _ (view_of_table t).cells done.closed (map place_of_spot t.points.items) t.frames.items c (point v.key v.addr) (state v.state.now) at;
      entered = λ found stands k i.
          entered_frame _ _ _ (view_of_table t).cells done.closed (map place_of_spot t.points.items) t.frames.items c v.key v.addr v.state.now k
          (enters_of _ _ _ (view_of_table t).cells done.closed (map place_of_spot t.points.items) t.frames.items c v.key v.addr v.state.now found k at stands i);
    }

-- ---- one point
-- the value of a point of the table
pub known_there : (s : Source) (at : KnownPoint) → IsTablePoint s at → value_of_place (s.table.now).places (Point at.key at.addr) ≡ Some (at.known.now).value
known_there s at is = ap (option_map (λ (m : Marked Known). m.value)) is.known

-- equal places have the same state, so a row of one is a row of the other
pub row_of_state : (s : Source) (row : NeedRow) (k : Key) (p : ℕ) (w : State) → IsRowOfTablePoint s k p row → (view_of_table s.table.now).cells (point k p) ≡ Some (state w)
    → IsRowOfPoint (s.ground.now).bounds.now (s.ground.now).image.now (s.ground.now).plan.now (s.table.now).frames.items k p w row
row_of_state s row k p w r there =
    let same : r.0 ≡ w = one_state r.0 w (let f : Some (state r.0) ≡ Some (state w) = sym r.1 ∙ there in cc) in
    subst (λ (z : State). IsRowOfPoint (s.ground.now).bounds.now (s.ground.now).image.now (s.ground.now).plan.now (s.table.now).frames.items k p z row) same r.2

pub row_moves : (s : Source) (row : NeedRow) (k j : Key) (p q : ℕ) → Point k p ≡ Point j q → IsRowOfTablePoint s k p row → IsRowOfTablePoint s j q row
row_moves s row k j p q e r = let key : k ≡ j = cc in let addr : p ≡ q = cc in subst (λ (n : ℕ). IsRowOfTablePoint s j n row) addr (subst (λ (z : Key). IsRowOfTablePoint s z p row) key r)

-- ---- one after another
-- the place of an entry that was looked up
pub index_there : {X S : Type 0} (m : IndexMap Spot X S) (i : ℕ) (q : Spot) (v : X) → Some (q, v) ≡ slice_get m.entries i → slice_get (keys m) i ≡ Some q
index_there {X} m i q v at = slice_get-map (λ (e : Spot × X). e.0) m.entries i ∙ ap (option_map (λ (e : Spot × X). e.0)) (sym at)

-- the number of a frame that was looked up
pub number_there : (s : Source) → HasFinishedTable s → (k : Key) (p : ℕ) (m : Marked Known) (n : ℕ) → get spot_eq (s.table.now).places (Point k p) ≡ Some m
    → ((frames : List Key) → AreFrameNumbers s.numbers.now frames frames → Contains frames k → n ≡ frame_number_in frames k) → n ≡ frame_number_in (s.table.now).frames.items k
unfolding view_of_table
number_there s source k p m n at is =
    let done = source.done in
    let t = s.table.now in
    is t.frames.items source.numbers
    (known_frame _ _ _ (view_of_table t).cells done.closed (map place_of_spot t.points.items) t.frames.items (done.counted).each (point k p) m.value (ap (option_map (λ (m : Marked Known). m.value)) at))

no_outline : (n i : ℕ) (o : Outline) → slice_get (replicate n None) i ≡ Some (Some o) → ⊥
no_outline zero i o e = let f : None ≡ Some (Some o) = e in cc
no_outline (suc n) zero o e = let f : Some None ≡ Some (Some o) = e in cc
no_outline (suc n) (suc i) o e = no_outline n i o e

pub draft_none : (s : Source) (d : RowsDraft) (n : ℕ) → d.rows.items ≡ [] → d.outlines.items ≡ replicate n None → HasRowsOfFirst s 0 d
draft_none s d n empty none = record {
  sound = λ row c. absurd (let n = ap (λ (l : List NeedRow). length l) empty in omega (arith, c.1, n));
  complete = λ k p c. absurd (omega (arith, c.1));
  outlines = λ node o e. absurd (no_outline n node o (ap (λ (l : List (Option Outline)). slice_get l node) (sym none) ∙ e));
}

-- one more entry
pub draft_step : (s : Source) (i : ℕ) (q : Spot) (old new : RowsDraft) → slice_get (keys (s.table.now).places) i ≡ Some q → HasRowsOfFirst s i old → ((row : NeedRow) → Contains old.rows.items row → Contains new.rows.items row)
    → ((row : NeedRow) → Contains new.rows.items row → Contains old.rows.items row ⊎ ((k : Key) × (p : ℕ) × IsRowOfTablePoint s k p row))
    → ((k : Key) (p : ℕ) → q ≡ Point k p → (row : NeedRow) × Contains new.rows.items row × IsRowOfTablePoint s k p row) → OutlinesHaveRows s new.rows.items new.outlines.items → HasRowsOfFirst s (i + 1) new
draft_step s i q old new there so keeps only here outlines = record {
  sound = λ row c. elim (only row c) [ inl before ↦ so.sound row before | inr now ↦ now ];
  complete = λ k p c.
      let ks = keys (s.table.now).places in
      let lt = slice_get_within ks i q there in
      elim (Contains-push_cases (take i ks) q (Point k p) (subst (λ (l : List Spot). Contains l (Point k p)) (take_more ks i q lt ∙ ap (λ (z : Spot). take i ks ++ z ∷ []) (get_or_from_slice_get ks i q q there)) c)) [
        | inl before ↦ (let r = so.complete k p before in (r.0, keeps r.0 r.1, r.2))
        | inr e ↦ here k p e
      ];
  outlines = outlines;
}

-- for an exit, or a point with an equal row, nothing is added
pub draft_same : (s : Source) (i : ℕ) (q : Spot) (old new : RowsDraft) → slice_get (keys (s.table.now).places) i ≡ Some q → HasRowsOfFirst s i old → new.rows ≡ old.rows → new.outlines ≡ old.outlines
    → ((k : Key) (p : ℕ) → q ≡ Point k p → (row : NeedRow) × Contains old.rows.items row × IsRowOfTablePoint s k p row) → HasRowsOfFirst s (i + 1) new
draft_same s i q old new there so rows outlines here =
    draft_step s i q old new there so (λ row c. subst (λ (v : Vec NeedRow Global). Contains v.items row) (sym rows) c) (λ row c. inl (subst (λ (v : Vec NeedRow Global). Contains v.items row) rows c))
    (λ k p e. let r = here k p e in (r.0, subst (λ (v : Vec NeedRow Global). Contains v.items r.0) (sym rows) r.1, r.2))
    (subst (λ (v : Vec (Option Outline) Global). OutlinesHaveRows s new.rows.items v.items) (sym outlines) (subst (λ (v : Vec NeedRow Global). OutlinesHaveRows s v.items old.outlines.items) (sym rows) so.outlines))

-- the row of a point is added
pub draft_more : (s : Source) (i : ℕ) (q : Spot) (old mid new : RowsDraft) (at : KnownPoint) → slice_get (keys (s.table.now).places) i ≡ Some q → HasRowsOfFirst s i old → mid.rows ≡ old.rows → mid.outlines ≡ old.outlines
    → q ≡ Point at.key at.addr → AddsPointRow s mid new at → HasRowsOfFirst s (i + 1) new
draft_more s i q old mid new at there so rows outlines is add =
    let row = add.0 in
    let r = add.1 in
    let more : new.rows.items ≡ old.rows.items ++ row ∷ [] = (add.2).rows ∙ ap (λ (v : Vec NeedRow Global). v.items ++ row ∷ []) rows in
    draft_step s i q old new there so (λ x c. subst (λ (l : List NeedRow). Contains l x) (sym more) (Contains-append_left old.rows.items (row ∷ []) x c))
    (λ x c. elim (Contains-push_cases old.rows.items row x (subst (λ (l : List NeedRow). Contains l x) more c)) [
      | inl before ↦ inl before
      | inr e ↦ inr (at.key, at.addr, subst (IsRowOfTablePoint s at.key at.addr) e r)
    ])
    (λ k p e. (row, subst (λ (l : List NeedRow). Contains l row) (sym more) (Contains-push old.rows.items row), row_moves s row at.key k at.addr p (sym is ∙ e) r))
    ((add.2).outlines (subst (λ (v : Vec (Option Outline) Global). OutlinesHaveRows s mid.rows.items v.items) (sym outlines) (subst (λ (v : Vec NeedRow Global). OutlinesHaveRows s v.items old.outlines.items) (sym rows) so.outlines)))

-- the outlines keep their rows
pub have_rows_still : (s : Source) (rows : List NeedRow) (row : NeedRow) (outlines : List (Option Outline)) → OutlinesHaveRows s rows outlines → OutlinesHaveRows s (rows ++ row ∷ []) outlines
have_rows_still s rows row outlines so node o e = let r = so node o e in (r.0, Contains-append_left rows (row ∷ []) r.0 r.1, r.2)

-- the outline of a new row
pub have_rows_more : (s : Source) (rows : List NeedRow) (row : NeedRow) (outlines : List (Option Outline)) (node : ℕ) (o : Outline) → IsRowOfOutline s node o row → node < length outlines → OutlinesHaveRows s rows outlines → OutlinesHaveRows s (rows ++ row ∷ []) (set outlines node (Some o))
have_rows_more s rows row outlines node o plain lt so i x e =
    elim (cases_eq i node) [
      | inl same ↦
          let at : slice_get (set outlines node (Some o)) node ≡ Some (Some o) = slice_get-get_or (set outlines node (Some o)) node None (omega (arith, lt, length-set outlines node (Some o))) ∙ ap (λ (z : Option Outline). Some z) (get_or-set_same outlines node (Some o) None lt) in
          let is : o ≡ x = let f : Some (Some o) ≡ Some (Some x) = sym at ∙ ap (slice_get (set outlines node (Some o))) (sym same) ∙ e in cc in
          (row, Contains-push rows row, subst (λ (n : ℕ). IsRowOfOutline s n x row) (sym same) (subst (λ (z : Outline). IsRowOfOutline s node z row) is plain))
      | inr other ↦
          let within : i < length outlines = omega (arith, slice_get_within (set outlines node (Some o)) i (Some x) e, length-set outlines node (Some o)) in
          let before : slice_get outlines i ≡ Some (Some x) =
          slice_get-get_or outlines i None within ∙ ap (λ (z : Option Outline). Some z) (sym (get_or-set_other outlines node i (Some o) None other))
          ∙ sym (slice_get-get_or (set outlines node (Some o)) i None (omega (arith, within, length-set outlines node (Some o)))) ∙ e in
          have_rows_still s rows row outlines so i x before
    ]

-- all points have rows
pub rows_done : (s : Source) (d : RowsDraft) (i : ℕ) → length (keys (s.table.now).places) ≤ i → HasRowsOfFirst s i d → AreRowsOfTable s.ground.now s.table.now d.rows.items
unfolding view_of_table
rows_done s d i le so = record {
  sound = λ row c. let r = so.sound row c in (r.0, r.1, (r.2).0, (r.2).1, (r.2).2);
  complete = λ k p u at.
      let ks = keys (s.table.now).places in
      let c = has_entry (s.table.now).places (Point k p) (subst (λ (o : Option Known). IsSome o) (sym at) refl) in
      let r = so.complete k p (subst (λ (l : List Spot). Contains l (Point k p)) (sym (take_all i ks le)) c) in
      (r.0, r.1, row_of_state s r.0 k p u r.2 at);
}

-- rows in another order, in a slice
pub rows_again : (s : Source) (rows new slice : List NeedRow) → slice ≡ new → IsPermutation rows new → AreRowsOfTable s.ground.now s.table.now rows → AreRowsOfTable s.ground.now s.table.now slice
rows_again s rows new slice is same are =
    let there = subst (IsPermutation rows) (sym is) same in
    record {
      sound = λ row c. are.sound row (Contains-permutation slice rows row (IsPermutation-sym rows slice there) c);
      complete = λ k p u at. let r = are.complete k p u at in (r.0, Contains-permutation rows slice r.0 there r.1, r.2);
    }
