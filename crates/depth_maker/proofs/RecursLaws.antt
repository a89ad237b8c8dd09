-- Entries of frames and the edges of their numbers: which points are recursive.
use Rattle.std.proofs.Common.{◌≡◌, inl, inr, ℕ, ◌+◌, ◌*◌, ◌^◌, ◌<◌, ◌≤◌, Bool, List, length, get_or, Some, refl, sym, ap, ◌∙◌, subst, arith, Contains}
use Rattle.std.specs.Prelude.{map, slice_index}
use Rattle.std.proofs.lemmas.Bool.{cases_lt}
use Rattle.std.proofs.lemmas.List.{get_or-map}
use Rattle.elf_image.specs.Images.{ImageData}
use Rattle.tcd_plan.specs.PlanData.{PlanData}
use Rattle.tc_isa.specs.declared.shapes.Shape.{Shape}
use Rattle.value_domain.specs.declared.states.State.{State}
use Rattle.value_domain.specs.Limits.{Limits}
use Rattle.depth_cert.specs.declared.keys.Key.{Key}
use Rattle.depth_cert.specs.Keys.{IsKey, number_of_key}
use Rattle.depth_cert.proofs.KeyLaws.{one_number}
use Rattle.cfg_recover.specs.Duties.{duties_of, entered_keys}
use Rattle.cfg_recover.specs.Entries.{start_key}
use Rattle.cfg_recover.specs.Assignments.{Place, point, Assignment, Closed, EntersInAssignment}
use Rattle.depth_cert.specs.Known.{state}
use Rattle.cfg_recover.specs.CertRefusals.{IsFrameReachedFrom, here, by_entry, EntersRecursion, point_order_number}
use Rattle.cfg_recover.proofs.CodeLaws.{IsCode-one}
use Rattle.cfg_recover.proofs.Members.{contains_map}
use Rattle.depth_maker.specs.AssignmentCounts.{ListsPointsAndFrames}
use Rattle.frame_places.specs.Numbers.{frame_number_in}
use Rattle.frame_places.specs.NodeGraph as graph
use Rattle.frame_places.specs.NodeGraph.{edge_between, AreEdgesOfRows, IsNodeReachedFrom, along, IsRecursiveNode, AreReachingMarks, AreEdgesBelow, IsNodeMarked}
use Rattle.depth_maker.specs.Rows.{IsRowOfPoint, AreRowsOfPoints}
use Rattle.frame_places.specs.declared.needs.reach.FrameEdge.{FrameEdge}
use Rattle.frame_places.specs.declared.needs.row.NeedRow.{NeedRow}
use Rattle.depth_maker.proofs.DutyGrowth.{contained_map}
use Rattle.depth_maker.proofs.EnteredLemmas.{owed_entered}
use Rattle.frame_places.proofs.NumberLemmas.{numbered_at}
use Rattle.depth_maker.proofs.PlaceLaws.{one_state}
use Rattle.depth_maker.proofs.RowLaws.{known_frame, enters_of, entered_frame}

-- ---- the order of points
pub point_below : (n m p q : ℕ) → p < 2 ^ 32 → n < m → n * 2 ^ 32 + p ≤ m * 2 ^ 32 + q
point_below n m p q small lt = omega arith

pub point_at : (n p q : ℕ) → p ≤ q → n * 2 ^ 32 + p ≤ n * 2 ^ 32 + q
point_at n p q le = omega arith

module _ (b : Limits) (image : ImageData) (plan : PlanData) (a : Assignment) (closed : Closed b image plan a) (ps : List Place) (ks : List Key) (counted : ListsPointsAndFrames a ps ks) where
  any : Key
  any = start_key image plan

  -- a row has the frames that its point enters, and no others
  pub row_enters : (k : Key) (p : ℕ) (u : State) (row : NeedRow) → a (point k p) ≡ Some (state u) → IsRowOfPoint b image plan ks k p u row → (s : State) (t : Key) → EntersInAssignment b image plan a k p s t
      → Contains row.into.items (frame_number_in ks t)
  row_enters k p u row at r s t e =
      let same : s ≡ u = one_state s u (let f : Some (state s) ≡ Some (state u) = sym (e.has).at ∙ at in cc) in
      let one = IsCode-one image plan p (e.has).shape (r.found).shape (e.has).size (r.found).size (e.has).code (r.stands).code in
      let first = subst (λ (z : State). Contains (duties_of b image plan k p z (e.has).shape (e.has).size) (e.has).owed) same (e.has).listed in
      let listed = subst (λ (z : Shape). Contains (duties_of b image plan k p u z (r.found).size) (e.has).owed) one.0 (subst (λ (z : ℕ). Contains (duties_of b image plan k p u (e.has).shape z) (e.has).owed) one.1 first) in
      let there = owed_entered (duties_of b image plan k p u (r.found).shape (r.found).size) (e.has).owed t e.entered listed (e.has).is in
      subst (λ (z : List ℕ). Contains z (frame_number_in ks t)) (sym r.into) (contains_map (frame_number_in ks) (entered_keys (duties_of b image plan k p u (r.found).shape (r.found).size)) t there)

  pub row_entered : (k : Key) (p : ℕ) (u : State) (row : NeedRow) → a (point k p) ≡ Some (state u) → IsRowOfPoint b image plan ks k p u row → (j : ℕ) → Contains row.into.items j
      → (t : Key) × EntersInAssignment b image plan a k p u t × (frame_number_in ks t ≡ j)
  row_entered k p u row at r j c =
      let x = contained_map (frame_number_in ks) (entered_keys (duties_of b image plan k p u (r.found).shape (r.found).size)) j (subst (λ (l : List ℕ). Contains l j) r.into c) in
      (x.0, enters_of b image plan a closed ps ks counted k p u r.found x.0 at r.stands x.1, x.2)

  -- known frames have different numbers
  pub one_frame : (k j : Key) → Contains ks k → Contains ks j → frame_number_in ks k ≡ frame_number_in ks j → k ≡ j
  one_frame k j hk hj e = sym (numbered_at ks k any hk).1 ∙ ap (λ n. get_or ks n any) e ∙ (numbered_at ks j any hj).1

  pub owner : (k : Key) (p : ℕ) (s : State) (t : Key) → EntersInAssignment b image plan a k p s t → Contains ks k
  owner k p s t e = known_frame b image plan a closed ps ks counted (point k p) (state s) (e.has).at

  pub entered : (k : Key) (p : ℕ) (s : State) (t : Key) → EntersInAssignment b image plan a k p s t → Contains ks t
  entered k p s t e = entered_frame b image plan a closed ps ks counted k p s t e

  module _ (rows : List NeedRow) (are : AreRowsOfPoints b image plan a ks rows) (edges : List FrameEdge) (es : AreEdgesOfRows rows edges) where
    -- ---- an entry is an edge, and an edge an entry
    entry_edge : (k : Key) (p : ℕ) (s : State) (t : Key) → EntersInAssignment b image plan a k p s t → Contains edges (edge_between (frame_number_in ks k) (frame_number_in ks t))
    entry_edge k p s t e =
        let c = are.complete k p s (e.has).at in
        es.complete (frame_number_in ks k) (frame_number_in ks t) (c.0, c.1, (c.2).node, row_enters k p s c.0 (e.has).at c.2 s t e)

    edge_entry : (i j : ℕ) → Contains edges (edge_between i j) → (k : Key) × (p : ℕ) × (s : State) × (t : Key) × EntersInAssignment b image plan a k p s t × (frame_number_in ks k ≡ i) × (frame_number_in ks t ≡ j)
    edge_entry i j c =
        let h = es.sound i j c in
        let s = are.sound h.0 h.1 in
        let x = row_entered s.0 s.1 s.2 h.0 s.3 s.4 j h.3 in
        (s.0, s.1, s.2, x.0, x.1, sym (s.4).node ∙ h.2, x.2)

    pub edges_between : AreEdgesBelow edges (length ks)
    edges_between = record {
      node = λ e c. let x = edge_entry e.node e.into c in subst (λ (n : ℕ). n < length ks) x.5 (numbered_at ks x.0 any (owner x.0 x.1 x.2 x.3 x.4)).0;
      into = λ e c. let x = edge_entry e.node e.into c in subst (λ (n : ℕ). n < length ks) x.6 (numbered_at ks x.3 any (entered x.0 x.1 x.2 x.3 x.4)).0;
    }

    -- ---- frames reached by entries are reached by edges, and the other way round
    reaches_leads : (j k : Key) → IsFrameReachedFrom b image plan a j k → IsNodeReachedFrom edges (frame_number_in ks j) (frame_number_in ks k)
    reaches_leads j _ here = graph.here
    reaches_leads j _ (by_entry k p s t e r) = along (frame_number_in ks k) (frame_number_in ks t) (entry_edge k p s t e) (reaches_leads j t r)

    leads_reaches : (i n : ℕ) → IsNodeReachedFrom edges i n → (j k : Key) → Contains ks j → Contains ks k → frame_number_in ks j ≡ i → frame_number_in ks k ≡ n → IsFrameReachedFrom b image plan a j k
    leads_reaches i _ graph.here j k hj hk ej ek = subst (IsFrameReachedFrom b image plan a j) (one_frame j k hj hk (ej ∙ sym ek)) here
    leads_reaches i _ (along n t c l) j k hj hk ej ek =
        let x = edge_entry n t c in
        let own : x.0 ≡ k = one_frame x.0 k (owner x.0 x.1 x.2 x.3 x.4) hk (x.5 ∙ sym ek) in
        by_entry k x.1 x.2 x.3 (subst (λ (z : Key). EntersInAssignment b image plan a z x.1 x.2 x.3) own x.4) (leads_reaches i t l j x.3 hj (entered x.0 x.1 x.2 x.3 x.4) ej x.6)

    -- ---- recursive points and recursive nodes
    pub recurs_ring : (k : Key) (p : ℕ) → EntersRecursion b image plan a k p → IsRecursiveNode edges (frame_number_in ks k)
    recurs_ring k p r = record { next = frame_number_in ks r.into; enters = entry_edge k p r.before r.into r.enters; back = reaches_leads k r.into r.back }

    pub ring_recurs : (k : Key) → Contains ks k → IsRecursiveNode edges (frame_number_in ks k) → (p : ℕ) × EntersRecursion b image plan a k p
    ring_recurs k hk r =
        let x = edge_entry (frame_number_in ks k) r.next r.enters in
        let own : x.0 ≡ k = one_frame x.0 k (owner x.0 x.1 x.2 x.3 x.4) hk x.5 in (
          x.1,
          record {
            before = x.2;
            into = x.3;
            enters = subst (λ (z : Key). EntersInAssignment b image plan a z x.1 x.2 x.3) own x.4;
            back = leads_reaches (frame_number_in ks k) r.next r.back k x.3 hk (entered x.0 x.1 x.2 x.3 x.4) refl x.6;
          },
        )

    module _ (k : Key) (hk : Contains ks k) (nodes : ℕ) (marks : List Bool) (reaching : AreReachingMarks edges nodes (frame_number_in ks k) marks) where
      pub marked_recurs : (p : ℕ) (s : State) (t : Key) → EntersInAssignment b image plan a k p s t → IsNodeMarked marks (frame_number_in ks t) → EntersRecursion b image plan a k p
      marked_recurs p s t e m = record {
        before = s;
        into = t;
        enters = e;
        back = leads_reaches (frame_number_in ks k) (frame_number_in ks t) (reaching.sound (frame_number_in ks t) m) k t hk (entered k p s t e) refl refl;
      }

      pub recurs_marked : (p : ℕ) (r : EntersRecursion b image plan a k p) → IsNodeMarked marks (frame_number_in ks r.into)
      recurs_marked p r = reaching.complete (frame_number_in ks r.into) (reaches_leads k r.into r.back)

  -- ---- the order of frames
  order_at : (k : Key) → Contains ks k → slice_index (map number_of_key ks) (frame_number_in ks k) ≡ number_of_key k
  order_at k hk = let n = numbered_at ks k any hk in get_or-map number_of_key ks (frame_number_in ks k) any 0 n.0 ∙ ap number_of_key n.1

  -- a point of the least frame comes before the points of all other frames
  pub point_first : (k j : Key) (p q : ℕ) → Contains ks k → Contains ks j → IsKey k → IsKey j → p < 2 ^ 32
      → slice_index (map number_of_key ks) (frame_number_in ks k) ≤ slice_index (map number_of_key ks) (frame_number_in ks j) → (k ≡ j → p ≤ q) → point_order_number k p ≤ point_order_number j q
  point_first k j p q hk hj key_k key_j small le own = at (number_of_key k) (number_of_key j) refl refl where
    at : (n m : ℕ) → number_of_key k ≡ n → number_of_key j ≡ m → point_order_number k p ≤ point_order_number j q
    at n m en em =
        let low : n ≤ m = omega (arith, sym en ∙ sym (order_at k hk), sym em ∙ sym (order_at j hj), le) in
        elim (cases_lt n m) [
          | inl lt ↦ subst (λ (x : ℕ). x * 2 ^ 32 + p ≤ point_order_number j q) (sym en) (subst (λ (y : ℕ). n * 2 ^ 32 + p ≤ y * 2 ^ 32 + q) (sym em) (point_below n m p q small lt))
          | inr ge ↦
              (let same : number_of_key k ≡ number_of_key j = en ∙ omega arith ∙ sym em in
              subst (λ (x : ℕ). x * 2 ^ 32 + p ≤ point_order_number j q) (sym same) (point_at (number_of_key j) p q (own (one_number k j key_k key_j same))))
        ]
