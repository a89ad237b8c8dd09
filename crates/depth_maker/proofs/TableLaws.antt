-- A table is one still after a join, a new reader and the end of a visit. One without work is
-- closed.
use Rattle.std.proofs.Common.{◌≡◌, ◌⊎◌, inl, inr, ℕ, Bool, true, false, Option, Some, None, refl, sym, ap, ◌∙◌, subst}
use Rattle.std.specs.Prelude.{if◌then◌else◌}
use Rattle.elf_image.specs.Images.{ImageData}
use Rattle.tcd_plan.specs.PlanData.{PlanData}
use Rattle.value_domain.specs.declared.states.State.{State}
use Rattle.value_domain.specs.Limits.{Limits}
use Rattle.depth_cert.specs.declared.keys.Key.{Key}
use Rattle.cfg_recover.specs.Entries.{start_state}
use Rattle.depth_cert.specs.Exits.{state_after_return}
use Rattle.cfg_recover.specs.Duties.{Duty, jump, enter, resume, leave}
use Rattle.cfg_recover.specs.Assignments.{Place, point, exit, Assignment, is_same_place, AssignmentCovers, joined_at_place, asked_by_duty, Joins, Derived, begins, joins, Closed, start_place, ArePointsFaultless}
use Rattle.depth_cert.specs.Known.{Known, state, leaving, CoversKnown}
use Rattle.depth_cert.specs.WellFormed.{IsWellFormedState, IsWellFormedKnown}
use Rattle.depth_maker.specs.WellFormedAssignments.{IsWellFormedDuty, AllWellFormed}
use Rattle.depth_maker.specs.MakerLaws.{AreMakerLaws}
use Rattle.depth_maker.specs.TableView.{TableView}
use Rattle.depth_maker.specs.Joins.{QueuesPlaceAndReaders}
use Rattle.depth_maker.specs.TableInvariant.{ViewInvariantHolds, IsDutySettled, IsReturnCovered}
use Rattle.depth_maker.proofs.PlaceLaws.{place_tells, place_same, from_if, resumed_some}
use Rattle.depth_maker.proofs.Below.{asks_well_formed}

same_or_not : (v : Bool) → (v ≡ true) ⊎ (v ≡ false)
same_or_not true = inl refl
same_or_not false = inr refl

module _ (b : Limits) (image : ImageData) (plan : PlanData) (laws : AreMakerLaws b image plan) where
  -- ---- what derived assignments know
  raised_well_formed : (o : Option Known) (v u : Known) → ((w : Known) → o ≡ Some w → IsWellFormedKnown b w) → IsWellFormedKnown b v → joined_at_place b o v ≡ Some u → IsWellFormedKnown b u
  raised_well_formed None v u old pv is = let e : v ≡ u = cc in subst (IsWellFormedKnown b) e pv
  raised_well_formed (Some w) v u old pv is = laws.joined_well_formed w v u (old w refl) pv is

  pub joined_well_formed : (a after : Assignment) (y : Place) → AllWellFormed b a → Joins b image plan a after y → AllWellFormed b after
  joined_well_formed a after y well_formed j x s at =
      elim (from_if (is_same_place x y) j.known (a x) (after x) s (j.is x) at) [
        | inl h ↦ subst (IsWellFormedKnown b) h.1 (raised_well_formed (a y) j.value j.known (well_formed y) (asks_well_formed b image plan laws a y j.value well_formed j.asks) j.raises)
        | inr h ↦ well_formed x s h.1
      ]

  begun_well_formed : (a : Assignment) → ((x : Place) → a x ≡ (if is_same_place x (start_place image plan) then Some (state (start_state plan)) else None)) → AllWellFormed b a
  begun_well_formed a is x s at =
      elim (from_if (is_same_place x (start_place image plan)) (state (start_state plan)) None (a x) s (is x) at) [
        | inl h ↦ subst (IsWellFormedKnown b) h.1 laws.start_well_formed
        | inr h ↦ (let q : None ≡ Some s = h.1 in cc)
      ]

  pub derived_well_formed : (a : Assignment) → Derived b image plan a → AllWellFormed b a
  derived_well_formed _ (begins a is) = begun_well_formed a is
  derived_well_formed _ (joins a after y d j) = joined_well_formed a after y (derived_well_formed a d) j

  raised_above : (o : Option Known) (v u w : Known) → ((w : Known) → o ≡ Some w → IsWellFormedKnown b w) → IsWellFormedKnown b v → joined_at_place b o v ≡ Some u → o ≡ Some w → CoversKnown u w
  raised_above None v u w old pv is at = absurd (let q : None ≡ Some w = at in cc)
  raised_above (Some x) v u w old pv is at = let e : x ≡ w = (let f : Some x ≡ Some w = at in cc) in subst (CoversKnown u) e (laws.joined_above x v u (old x refl) pv is).0

  raised_covers : (o : Option Known) (v u : Known) → ((w : Known) → o ≡ Some w → IsWellFormedKnown b w) → IsWellFormedKnown b v → joined_at_place b o v ≡ Some u → CoversKnown u v
  raised_covers None v u old pv is = let e : v ≡ u = (let f : Some v ≡ Some u = is in cc) in subst (λ (k : Known). CoversKnown k v) e (laws.covers_same v)
  raised_covers (Some w) v u old pv is = (laws.joined_above w v u (old w refl) pv is).1

  -- ---- one join
  module _ (a after : Assignment) (y : Place) (well_formed : AllWellFormed b a) (j : Joins b image plan a after y) where
    value_well_formed : IsWellFormedKnown b j.value
    value_well_formed = asks_well_formed b image plan laws a y j.value well_formed j.asks

    pub joined_at : after y ≡ Some j.known
    joined_at = j.is y ∙ ap (λ t. if t then Some j.known else a y) (place_same y)

    pub joined_other : (x : Place) → is_same_place x y ≡ false → after x ≡ a x
    joined_other x apart = j.is x ∙ ap (λ t. if t then Some j.known else a x) apart

    pub joined_covers : AssignmentCovers after y j.value
    joined_covers = record { known = j.known; at = joined_at; covers = raised_covers (a y) j.value j.known (well_formed y) value_well_formed j.raises }

    covers_case : (t : Bool) (z : Place) (v : Known) → is_same_place z y ≡ t → IsWellFormedKnown b v → AssignmentCovers a z v → AssignmentCovers after z v
    covers_case false z v apart pv h = record { known = h.known; at = joined_other z apart ∙ h.at; covers = h.covers }
    covers_case true z v eq pv h =
        let e = place_tells z y eq in
        let at : a y ≡ Some h.known = subst (λ (k : Place). a k ≡ Some h.known) e h.at in
        record {
          known = j.known;
          at = ap after e ∙ joined_at;
          covers = laws.covers_through v h.known j.known pv (well_formed z h.known h.at) (raised_above (a y) j.value j.known h.known (well_formed y) value_well_formed j.raises at) h.covers;
        }

    -- what was covered is covered still
    pub covers_stays : (z : Place) (v : Known) → IsWellFormedKnown b v → AssignmentCovers a z v → AssignmentCovers after z v
    covers_stays z v pv h = covers_case (is_same_place z y) z v refl pv h

  -- a derived assignment covers the start
  pub derived_start : (a : Assignment) → Derived b image plan a → AssignmentCovers a (start_place image plan) (state (start_state plan))
  derived_start _ (begins a is) = record {
    known = state (start_state plan);
    at = is (start_place image plan) ∙ ap (λ t. if t then Some (state (start_state plan)) else None) (place_same (start_place image plan));
    covers = laws.covers_same (state (start_state plan));
  }
  derived_start _ (joins a after y d j) = covers_stays a after y (derived_well_formed a d) j (start_place image plan) (state (start_state plan)) laws.start_well_formed (derived_start a d)

  -- ---- tables
  module _ (t u : TableView) (y : Place) (is : ViewInvariantHolds b image plan t) (j : Joins b image plan t.cells u.cells y) (m : QueuesPlaceAndReaders t u y) where
    well_formed : AllWellFormed b t.cells
    well_formed = derived_well_formed t.cells is.derived

    -- if a point has no new work, its duties are settled still
    pub settled_stays : (k : Key) (p : ℕ) (s : State) (d : Duty) → u.queued (point k p) ≡ false → IsWellFormedState b s → IsWellFormedDuty b d → IsDutySettled t k p s d → IsDutySettled u k p s d
    settled_stays k p s (jump q v) free ps pd h = covers_stays t.cells u.cells y well_formed j (point k q) (state v) pd h
    settled_stays k p s (enter l v) free ps pd h = covers_stays t.cells u.cells y well_formed j (point l l.entry) (state v) pd h
    settled_stays k p s (leave x) free ps pd h = covers_stays t.cells u.cells y well_formed j (exit k) (leaving x) pd h
    settled_stays k p s (resume l q) free ps pd h =
        let none : t.reads y (point k p) → ⊥ =
        λ reads. elim (m.each (point k p)) [
          | inl n ↦ (let r : true ≡ false = sym n.0 ∙ free in cc)
          | inr n ↦ n.3 reads
        ] in
        let told : (is_same_place (exit l) y ≡ true) → ⊥ = λ eq. none (subst (λ (z : Place). t.reads z (point k p)) (place_tells (exit l) y eq) h.1) in
        let apart : is_same_place (exit l) y ≡ false = elim (same_or_not (is_same_place (exit l) y)) [ inl n ↦ absurd (told n) | inr n ↦ n ] in
        ((λ x at. let old : t.cells (exit l) ≡ Some x = sym (joined_other t.cells u.cells y well_formed j (exit l) apart) ∙ at in back x old (h.0 x old)), m.reads (exit l) (point k p) h.1 none)
      where
        back : (x : Known) → t.cells (exit l) ≡ Some x → IsReturnCovered t k s l q x → IsReturnCovered u k s l q x
        back (state v) at h = tt
        back (leaving x) at h = covers_stays t.cells u.cells y well_formed j (point k q) (state (state_after_return s x l.kind)) (laws.after_well_formed s x l.kind ps (well_formed (exit l) (leaving x) at)) h

    -- if a point has no new work, its state is the old one
    pub idle_before : (x : Place) → u.idle x ≡ true → (t.idle x ≡ true) × (u.cells x ≡ t.cells x)
    idle_before x is =
        elim (m.each x) [
          | inl n ↦ (let r : true ≡ false = sym is ∙ n.1 in cc)
          | inr n ↦ (sym n.0 ∙ is, joined_other t.cells u.cells y well_formed j x n.2)
        ]

  -- a join leaves a table
  pub table_rises : (t u : TableView) (y : Place) → ViewInvariantHolds b image plan t → Joins b image plan t.cells u.cells y → QueuesPlaceAndReaders t u y → ((x : Place) → u.idle x ≡ true → u.queued x ≡ false) → ViewInvariantHolds b image plan u
  table_rises t u y is j m apart = record {
    derived = joins t.cells u.cells y is.derived j;
    own = λ k p s at idle. let o = idle_before t u y is j m (point k p) idle in is.own k p s (sym o.1 ∙ at) o.0;
    settled = λ k p s shape n d at idle code c.
        let o = idle_before t u y is j m (point k p) idle in
        let before : t.cells (point k p) ≡ Some (state s) = sym o.1 ∙ at in
        let ps = derived_well_formed t.cells is.derived (point k p) (state s) before in
        let fine = is.own k p s before o.0 in
        settled_stays t u y is j m k p s d.duty (apart (point k p) idle) ps (laws.duties_well_formed k p s shape n d ps fine code c) (is.settled k p s shape n d before o.0 code c);
  }

  -- ---- the same values
  module _ (t u : TableView) (cells : (x : Place) → u.cells x ≡ t.cells x) (reads : (z x : Place) → t.reads z x → u.reads z x) where
    covers_again : (z : Place) (v : Known) → AssignmentCovers t.cells z v → AssignmentCovers u.cells z v
    covers_again z v h = record { known = h.known; at = cells z ∙ h.at; covers = h.covers }

    pub settled_again : (k : Key) (p : ℕ) (s : State) (d : Duty) → IsDutySettled t k p s d → IsDutySettled u k p s d
    settled_again k p s (jump q v) h = covers_again (point k q) (state v) h
    settled_again k p s (enter l v) h = covers_again (point l l.entry) (state v) h
    settled_again k p s (leave x) h = covers_again (exit k) (leaving x) h
    settled_again k p s (resume l q) h = ((λ x at. back x (h.0 x (sym (cells (exit l)) ∙ at))), reads (exit l) (point k p) h.1) where
      back : (x : Known) → IsReturnCovered t k s l q x → IsReturnCovered u k s l q x
      back (state v) h = tt
      back (leaving x) h = covers_again (point k q) (state (state_after_return s x l.kind)) h

    -- other marks: with more work and more readers, it is a table still
    pub table_marked : ViewInvariantHolds b image plan t → ((x : Place) → u.idle x ≡ true → t.idle x ≡ true) → Derived b image plan u.cells → ViewInvariantHolds b image plan u
    table_marked is idle derived = record {
      derived = derived;
      own = λ k p s at now. is.own k p s (sym (cells (point k p)) ∙ at) (idle (point k p) now);
      settled = λ k p s shape n d at now code c. settled_again k p s d.duty (is.settled k p s shape n d (sym (cells (point k p)) ∙ at) (idle (point k p) now) code c);
    }

  -- a settled duty is covered
  pub settled_covers : (t : TableView) (k : Key) (p : ℕ) (s : State) (d : Duty) (y : Place) (v : Known) → IsDutySettled t k p s d → asked_by_duty t.cells k s d ≡ Some (y, v) → AssignmentCovers t.cells y v
  settled_covers t k p s (jump q u) y v h is = let f : (point k q, state u) ≡ (y, v) = cc in subst (λ (w : Place × Known). AssignmentCovers t.cells w.0 w.1) f h
  settled_covers t k p s (enter l u) y v h is = let f : (point l l.entry, state u) ≡ (y, v) = cc in subst (λ (w : Place × Known). AssignmentCovers t.cells w.0 w.1) f h
  settled_covers t k p s (leave x) y v h is = let f : (exit k, leaving x) ≡ (y, v) = cc in subst (λ (w : Place × Known). AssignmentCovers t.cells w.0 w.1) f h
  settled_covers t k p s (resume l q) y v h is =
      let r = resumed_some k s l q (t.cells (exit l)) y v is in
      let f : (point k q, state (state_after_return s r.0 l.kind)) ≡ (y, v) = λ i. (r.2 i, r.3 i) in
      subst (λ (w : Place × Known). AssignmentCovers t.cells w.0 w.1) f (h.0 (leaving r.0) r.1)

  -- with no work left
  pub table_closed : (t : TableView) → ViewInvariantHolds b image plan t → ((k : Key) (p : ℕ) (s : State) → t.cells (point k p) ≡ Some (state s) → t.idle (point k p) ≡ true)
      → Closed b image plan t.cells × ArePointsFaultless b image plan t.cells
  table_closed t is idle = (
    record {
      start = derived_start t.cells is.derived;
      duties = λ y v k.
          let h = k.has in
          let done = is.settled k.key k.addr k.before h.shape h.size h.owed h.at (idle k.key k.addr k.before h.at) h.code h.listed in
          settled_covers t k.key k.addr k.before k.duty y v (subst (λ (d : Duty). IsDutySettled t k.key k.addr k.before d) h.is done) k.asks;
    },
    (λ k p s at. is.own k p s at (idle k p s at)),
  )
