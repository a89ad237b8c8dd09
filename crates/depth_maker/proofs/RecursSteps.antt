-- The first recursive point, by the types of the code.
use Rattle.std.proofs.Common.{◌≡◌, inl, inr, ℕ, ◌<◌, ◌≤◌, Bool, List, [], ◌∷◌, ◌++◌, length, get_or, Option, Some, None, IsSome, refl, sym, ap, ◌∙◌, subst, arith, Contains}
use Rattle.std.specs.Prelude.{map, IsTrue, slice_index}
use Rattle.std.proofs.lemmas.List.{length-map, get_or_default}
use Rattle.std.proofs.lemmas.List.Elements.{Contains-push_cases}
use Rattle.value_domain.specs.declared.states.State.{State}
use Rattle.depth_cert.specs.declared.keys.Key.{Key}
use Rattle.depth_cert.specs.Keys.{number_of_key}
use Rattle.cfg_recover.specs.Assignments.{point}
use Rattle.depth_cert.specs.Known.{Known, state}
use Rattle.frame_places.specs.Numbers.{frame_number_in}
use Rattle.frame_places.specs.NodeGraph.{IsFirstRecursiveNode, IsRecursiveNode, AreReachingMarks, AreEdgesBelow, IsNodeMarked}
use Rattle.depth_maker.specs.Recursing.{AreTableEdges, EntersMarkedFrame, IsFirstRecursiveAddress, IsFirstRecursion, IsRecursivePoint, IsFirstRecursivePoint, frame_key_numbers}
use Rattle.depth_maker.specs.Rows.{IsRowOfPoint, HasFinishedTable}
use Rattle.depth_maker.specs.SpotsAsPlaces.{place_of_spot}
use Rattle.depth_maker.specs.TableView.{view_of_table}
use Rattle.frame_places.specs.declared.places.Spot.{Spot}
use Rattle.frame_places.specs.declared.places.Spot.TheVariants.{Point}
use Rattle.frame_places.specs.declared.needs.reach.FrameEdge.{FrameEdge}
use Rattle.frame_places.specs.declared.needs.row.NeedRow.{NeedRow}
use Rattle.depth_maker.specs.declared.rows.Source.{Source}
use Rattle.frame_places.proofs.NumberLemmas.{number_at}
use Rattle.depth_maker.proofs.PlaceRanges.{derived_in_range}
use Rattle.depth_maker.proofs.RecursLaws.{row_enters, row_entered, owner, edges_between, recurs_ring, ring_recurs, marked_recurs, recurs_marked, point_first}
use Rattle.depth_maker.proofs.PointEntries.{placed}

-- ---- one point
module _ (s : Source) (source : HasFinishedTable s) (marks : List Bool) (k : Key) (p : ℕ) where
  -- a point enters a marked frame if its row has a marked number
  pub row_marked : (row : NeedRow)
      → ((u : State) × ((view_of_table s.table.now).cells (point k p) ≡ Some (state u)) × IsRowOfPoint (s.ground.now).bounds.now (s.ground.now).image.now (s.ground.now).plan.now (s.table.now).frames.items k p u row)
      → (r : Bool) → (IsTrue r → (t : ℕ) × Contains row.into.items t × IsNodeMarked marks t) × (((t : ℕ) × Contains row.into.items t × IsNodeMarked marks t) → IsTrue r)
      → (IsTrue r → EntersMarkedFrame s marks k p) × (EntersMarkedFrame s marks k p → IsTrue r)
  unfolding view_of_table
  row_marked row h r tells = (
    (λ y.
        let f = tells.0 y in
        let x = row_entered _ _ _ (view_of_table s.table.now).cells (source.done).closed (map place_of_spot (s.table.now).points.items) (s.table.now).frames.items ((source.done).counted).each k p h.0 row h.1 h.2 f.0 f.1 in
        record { before = h.0; next = x.0; enters = x.1; marked = subst (IsNodeMarked marks) (sym x.2) f.2 }),
    (λ e. tells.1 (
      frame_number_in (s.table.now).frames.items e.next,
      row_enters _ _ _ (view_of_table s.table.now).cells (source.done).closed (map place_of_spot (s.table.now).points.items) (s.table.now).frames.items ((source.done).counted).each k p h.0 row h.1 h.2 e.before e.next e.enters,
      e.marked,
    )),
  )

  pub none_marked : (view_of_table s.table.now).cells (point k p) ≡ None → EntersMarkedFrame s marks k p → ⊥
  none_marked none e = let f : None ≡ Some (state e.before) = sym none ∙ ((e.enters).has).at in cc

-- ---- one more place
module _ (s : Source) (marks : List Bool) (k : Key) (ys : List Spot) where
  pub first_past : (y : Spot) (p q : ℕ) → y ≡ Point k q → IsFirstRecursiveAddress s marks k ys (Some p) → p ≤ q → IsFirstRecursiveAddress s marks k (ys ++ y ∷ []) (Some p)
  first_past y p q is h le = (
    h.0,
    (λ r c e.
        elim (Contains-push_cases ys y (Point k r) c) [
          | inl i ↦ h.1 r i e
          | inr same ↦ (let f : q ≡ r = cc in omega arith)
        ]),
  )

  pub first_other : (y : Spot) (first : Option ℕ) → IsFirstRecursiveAddress s marks k ys first → ((p : ℕ) → y ≡ Point k p → EntersMarkedFrame s marks k p → ⊥) → IsFirstRecursiveAddress s marks k (ys ++ y ∷ []) first
  first_other y None h out = λ r c e. elim (Contains-push_cases ys y (Point k r) c) [ inl i ↦ h r i e | inr same ↦ out r same e ]
  first_other y (Some p) h out = (h.0, (λ r c e. elim (Contains-push_cases ys y (Point k r) c) [ inl i ↦ h.1 r i e | inr same ↦ absurd (out r same e) ]))

  pub first_not : (y : Spot) (q : ℕ) (first : Option ℕ) → y ≡ Point k q → IsFirstRecursiveAddress s marks k ys first → (EntersMarkedFrame s marks k q → ⊥) → IsFirstRecursiveAddress s marks k (ys ++ y ∷ []) first
  first_not y q first is h out = first_other y first h (λ p same e. out (let f : p ≡ q = cc in subst (EntersMarkedFrame s marks k) f e))

  pub first_here : (y : Spot) (q : ℕ) (first : Option ℕ) → y ≡ Point k q → IsFirstRecursiveAddress s marks k ys first → ((p : ℕ) → first ≡ Some p → q < p) → EntersMarkedFrame s marks k q → IsFirstRecursiveAddress s marks k (ys ++ y ∷ []) (Some q)
  first_here y q None is h less m = (
    m,
    (λ r c e.
        elim (Contains-push_cases ys y (Point k r) c) [
          | inl i ↦ absurd (h r i e)
          | inr same ↦ (let f : q ≡ r = cc in omega arith)
        ]),
  )
  first_here y q (Some p) is h less m = (
    m,
    (λ r c e.
        elim (Contains-push_cases ys y (Point k r) c) [
          | inl i ↦ (let below = less p refl in let f = h.1 r i e in omega (arith, below, f))
          | inr same ↦ (let f : q ≡ r = cc in omega arith)
        ]),
  )

-- ---- the whole
module _ (s : Source) (source : HasFinishedTable s) (edges : List FrameEdge) (es : AreTableEdges s edges) where
  pub edges_within : AreEdgesBelow edges (length (s.table.now).frames.items)
  unfolding view_of_table
  edges_within = edges_between _ _ _ (view_of_table s.table.now).cells (source.done).closed (map place_of_spot (s.table.now).points.items) (s.table.now).frames.items ((source.done).counted).each es.0 es.1 edges es.2

  -- if no frame is recursive, no point is
  pub none_recurs : ((i : ℕ) → IsRecursiveNode edges i → ⊥) → IsFirstRecursion s None
  unfolding view_of_table
  none_recurs none k p r =
      none (frame_number_in (s.table.now).frames.items k)
      (recurs_ring _ _ _ (view_of_table s.table.now).cells (source.done).closed (map place_of_spot (s.table.now).points.items) (s.table.now).frames.items ((source.done).counted).each es.0 es.1 edges es.2 k p r)

  -- a recursive point has a place in the table
  stands : (k : Key) (p : ℕ) → IsRecursivePoint s k p → Contains (s.table.now).points.items (Point k p)
  unfolding view_of_table
  stands k p r = placed (s.table.now).points.items k p ((((source.done).counted).each).points k p (subst (λ (o : Option Known). IsSome o) (sym ((r.enters).has).at) refl))

  frame_of_point : (k : Key) (p : ℕ) → IsRecursivePoint s k p → Contains (s.table.now).frames.items k
  unfolding view_of_table
  frame_of_point k p r =
      owner _ _ _ (view_of_table s.table.now).cells (source.done).closed (map place_of_spot (s.table.now).points.items) (s.table.now).frames.items ((source.done).counted).each k p r.before r.into r.enters

  -- the frame of a number
  pub key_there : (node : ℕ) → IsFirstRecursiveNode (frame_key_numbers s) edges (Some node) → (frames : List Key) (d : Key) → frames ≡ (s.table.now).frames.items
      → get_or frames node d ≡ get_or (s.table.now).frames.items node (get_or frames node d)
  key_there node first frames d same =
      let lt : node < length (s.table.now).frames.items = omega (arith, first.0, length-map (s.table.now).frames.items number_of_key) in
      ap (λ (l : List Key). get_or l node d) same ∙ get_or_default (s.table.now).frames.items node d (get_or frames node d) lt

  module _ (nodes node : ℕ) (k : Key) (first : IsFirstRecursiveNode (frame_key_numbers s) edges (Some node)) (marks : List Bool) (reaching : AreReachingMarks edges nodes node marks) (is : k ≡ get_or (s.table.now).frames.items node k) where
    pub in_frames : node < length (s.table.now).frames.items
    in_frames = omega (arith, first.0, length-map (s.table.now).frames.items number_of_key)

    own : Contains (s.table.now).frames.items k
    own = (node, in_frames, sym is)

    number : frame_number_in (s.table.now).frames.items k ≡ node
    unfolding view_of_table
    number = ap (frame_number_in (s.table.now).frames.items) is ∙ number_at (s.table.now).frames.items node k (((source.done).counted).each).once_each in_frames

    at_node : AreReachingMarks edges nodes (frame_number_in (s.table.now).frames.items k) marks
    at_node = subst (λ (n : ℕ). AreReachingMarks edges nodes n marks) (sym number) reaching

    marked : (p : ℕ) → IsRecursivePoint s k p → EntersMarkedFrame s marks k p
    unfolding view_of_table
    marked p r = record {
      before = r.before;
      next = r.into;
      enters = r.enters;
      marked = recurs_marked _ _ _ (view_of_table s.table.now).cells (source.done).closed (map place_of_spot (s.table.now).points.items) (s.table.now).frames.items ((source.done).counted).each es.0 es.1 edges es.2 k own nodes marks at_node p r;
    }

    -- the frame has a recursive point
    pub one_stands : IsFirstRecursiveAddress s marks k (s.table.now).points.items None → ⊥
    unfolding view_of_table
    one_stands none =
        let x = ring_recurs _ _ _ (view_of_table s.table.now).cells (source.done).closed (map place_of_spot (s.table.now).points.items) (s.table.now).frames.items ((source.done).counted).each es.0 es.1 edges es.2 k own
        (subst (IsRecursiveNode edges) (sym number) first.1) in
        none x.0 (stands k x.0 x.1) (marked x.0 x.1)

    -- the first of these is the first of all
    pub first_recurs : (p : ℕ) → IsFirstRecursiveAddress s marks k (s.table.now).points.items (Some p) → IsFirstRecursivePoint s k p
    unfolding view_of_table
    first_recurs p h = record {
      recurs = marked_recurs _ _ _ (view_of_table s.table.now).cells (source.done).closed (map place_of_spot (s.table.now).points.items) (s.table.now).frames.items ((source.done).counted).each es.0 es.1 edges es.2 k own nodes marks at_node
          p (h.0).before (h.0).next (h.0).enters (h.0).marked;
      first = λ j q r.
          let here = derived_in_range _ _ _ (s.ground.now).sound (view_of_table s.table.now).cells (source.done).derived (point k p) (state (h.0).before) (((h.0).enters).has).at in
          let there = derived_in_range _ _ _ (s.ground.now).sound (view_of_table s.table.now).cells (source.done).derived (point j q) (state r.before) ((r.enters).has).at in
          point_first _ _ _ (view_of_table s.table.now).cells (source.done).closed (map place_of_spot (s.table.now).points.items) (s.table.now).frames.items ((source.done).counted).each k j p q own (frame_of_point j q r) here.0 there.0 here.1
          (subst (λ (n : ℕ). slice_index (frame_key_numbers s) n ≤ slice_index (frame_key_numbers s) (frame_number_in (s.table.now).frames.items j)) (sym number)
          (first.2 (frame_number_in (s.table.now).frames.items j)
          (recurs_ring _ _ _ (view_of_table s.table.now).cells (source.done).closed (map place_of_spot (s.table.now).points.items) (s.table.now).frames.items ((source.done).counted).each es.0 es.1 edges es.2 j q r)))
          (λ same. let mine = subst (λ (z : Key). IsRecursivePoint s z q) (sym same) r in h.1 q (stands k q mine) (marked q mine));
    }
