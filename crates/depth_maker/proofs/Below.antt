-- Every derived assignment is below every closed one without faults of its own.
use Rattle.std.proofs.Common.{◌≡◌, ℕ, Option, Some, None, IsSome, refl, sym, ap, ◌∙◌, subst, inl, inr}
use Rattle.std.specs.Prelude.{if◌then◌else◌}
use Rattle.elf_image.specs.Images.{ImageData}
use Rattle.tcd_plan.specs.PlanData.{PlanData}
use Rattle.value_domain.specs.declared.states.State.{State}
use Rattle.value_domain.specs.Limits.{Limits}
use Rattle.value_domain.specs.State.{Covers, state_join_if_any}
use Rattle.depth_cert.specs.declared.keys.Key.{Key}
use Rattle.cfg_recover.specs.Entries.{start_state}
use Rattle.depth_cert.specs.Exits.{state_after_return}
use Rattle.cfg_recover.specs.Duties.{Duty, jump, enter, resume, leave}
use Rattle.cfg_recover.specs.Assignments.{Place, point, exit, Assignment, is_same_place, AssignmentCovers, IsAssignmentBelow, joined_at_place, asked_by_duty, asked_by_resume, HasDuty, AsksFor, Joins, Derived, begins, joins, Closed, start_place, ArePointsFaultless}
use Rattle.depth_cert.specs.Known.{Known, state, leaving, CoversKnown, joined_known}
use Rattle.depth_cert.specs.WellFormed.{IsWellFormedState, IsWellFormedKnown}
use Rattle.cfg_recover.specs.CertRefusals.{HasTooManyNodes, HasTooManyPoints, IsPastCertLimits, IsFaultInAssignment, own, locals, IsRefusalFault, derived, limits}
use Rattle.depth_maker.specs.DutiesMonotone.{IsDutyBelow}
use Rattle.depth_maker.specs.WellFormedAssignments.{IsWellFormedDuty, AllWellFormed}
use Rattle.depth_maker.specs.MakerLaws.{AreMakerLaws}
use Rattle.depth_maker.proofs.PlaceLaws.{place_tells, over_exit, resumed_some, from_if}
use Rattle.cfg_recover.proofs.KnownPlaces.{over_state}

module _ (b : Limits) (image : ImageData) (plan : PlanData) (laws : AreMakerLaws b image plan) where
  -- ---- what flows in
  asked_well_formed : (a : Assignment) (key : Key) (s : State) (d : Duty) (y : Place) (v : Known) → AllWellFormed b a → IsWellFormedState b s → IsWellFormedDuty b d → asked_by_duty a key s d ≡ Some (y, v) → IsWellFormedKnown b v
  asked_well_formed a key s (jump q t) y v cells ps pd is =
      let f : (point key q, state t) ≡ (y, v) = cc in subst (IsWellFormedKnown b) (ap (λ (p : Place × Known). p.1) f) pd
  asked_well_formed a key s (enter k t) y v cells ps pd is =
      let f : (point k k.entry, state t) ≡ (y, v) = cc in subst (IsWellFormedKnown b) (ap (λ (p : Place × Known). p.1) f) pd
  asked_well_formed a key s (resume k q) y v cells ps pd is =
      let r = resumed_some key s k q (a (exit k)) y v is in
      subst (IsWellFormedKnown b) r.3 (laws.after_well_formed s r.0 k.kind ps (cells (exit k) (leaving r.0) r.1))
  asked_well_formed a key s (leave x) y v cells ps pd is =
      let f : (exit key, leaving x) ≡ (y, v) = cc in subst (IsWellFormedKnown b) (ap (λ (p : Place × Known). p.1) f) pd

  -- two duties, of which one asks for no more
  incoming_rises : (a c : Assignment) → IsAssignmentBelow a c → AllWellFormed b a → AllWellFormed b c → (key : Key) (s t : State) → IsWellFormedState b s → IsWellFormedState b t → Covers t s → (d e : Duty) → IsDutyBelow d e
      → (y : Place) (v : Known) → asked_by_duty a key s d ≡ Some (y, v) → (w : Known) × (asked_by_duty c key t e ≡ Some (y, w)) × CoversKnown w v
  incoming_rises a c below pa pc key s t ps pt ts (jump q u) (jump r w) h y v is =
      let f : (point key q, state u) ≡ (y, v) = cc in
      (state w, ap (λ (n : ℕ). Some (point key n, state w)) (sym h.0) ∙ ap (λ (p : Place × Known). Some (p.0, state w)) f, subst (CoversKnown (state w)) (ap (λ (p : Place × Known). p.1) f) h.1)
  incoming_rises a c below pa pc key s t ps pt ts (enter k u) (enter j w) h y v is =
      let f : (point k k.entry, state u) ≡ (y, v) = cc in
      (state w, ap (λ (n : Key). Some (point n n.entry, state w)) (sym h.0) ∙ ap (λ (p : Place × Known). Some (p.0, state w)) f, subst (CoversKnown (state w)) (ap (λ (p : Place × Known). p.1) f) h.1)
  incoming_rises a c below pa pc key s t ps pt ts (resume k q) (resume j r) h y v is =
      let m = resumed_some key s k q (a (exit k)) y v is in
      let o = below (exit k) (leaving m.0) m.1 in
      let up = over_exit o.known m.0 o.covers in
      let there : c (exit k) ≡ Some (leaving up.0) = o.at ∙ ap (λ (w : Known). Some w) up.1 in
      let px = pa (exit k) (leaving m.0) m.1 in
      let py = pc (exit k) (leaving up.0) there in (
        state (state_after_return t up.0 k.kind),
        ap (λ (n : Key). asked_by_duty c key t (resume n r)) (sym h.0) ∙ ap (λ (n : ℕ). asked_by_duty c key t (resume k n)) (sym h.1) ∙ ap (asked_by_resume key t k q) there ∙ ap (λ (p : Place). Some (p, state (state_after_return t up.0 k.kind))) m.2,
        subst (CoversKnown (state (state_after_return t up.0 k.kind))) m.3 (laws.after_grows s t m.0 up.0 k.kind ps pt px py ts up.2),
      )
  incoming_rises a c below pa pc key s t ps pt ts (leave x) (leave z) h y v is =
      let f : (exit key, leaving x) ≡ (y, v) = cc in
      (leaving z, ap (λ (p : Place × Known). Some (p.0, leaving z)) f, subst (CoversKnown (leaving z)) (ap (λ (p : Place × Known). p.1) f) h)
  incoming_rises a c below pa pc key s t ps pt ts (jump q u) (enter j w) h y v is = absurd h
  incoming_rises a c below pa pc key s t ps pt ts (jump q u) (resume j r) h y v is = absurd h
  incoming_rises a c below pa pc key s t ps pt ts (jump q u) (leave z) h y v is = absurd h
  incoming_rises a c below pa pc key s t ps pt ts (enter k u) (jump r w) h y v is = absurd h
  incoming_rises a c below pa pc key s t ps pt ts (enter k u) (resume j r) h y v is = absurd h
  incoming_rises a c below pa pc key s t ps pt ts (enter k u) (leave z) h y v is = absurd h
  incoming_rises a c below pa pc key s t ps pt ts (resume k q) (jump r w) h y v is = absurd h
  incoming_rises a c below pa pc key s t ps pt ts (resume k q) (enter j w) h y v is = absurd h
  incoming_rises a c below pa pc key s t ps pt ts (resume k q) (leave z) h y v is = absurd h
  incoming_rises a c below pa pc key s t ps pt ts (leave x) (jump r w) h y v is = absurd h
  incoming_rises a c below pa pc key s t ps pt ts (leave x) (enter j w) h y v is = absurd h
  incoming_rises a c below pa pc key s t ps pt ts (leave x) (resume j r) h y v is = absurd h

  pub duty_well_formed : (a : Assignment) (key : Key) (p : ℕ) (s : State) (d : Duty) → AllWellFormed b a → HasDuty b image plan a key p s d → IsWellFormedDuty b d
  duty_well_formed a key p s d cells h =
      subst (IsWellFormedDuty b) h.is (laws.duties_well_formed key p s h.shape h.size h.owed (cells (point key p) (state s) h.at) h.faultless h.code h.listed)

  pub asks_well_formed : (a : Assignment) (y : Place) (v : Known) → AllWellFormed b a → AsksFor b image plan a y v → IsWellFormedKnown b v
  asks_well_formed a y v cells k =
      asked_well_formed a k.key k.before k.duty y v cells (cells (point k.key k.addr) (state k.before) (k.has).at) (duty_well_formed a k.key k.addr k.before k.duty cells k.has) k.asks

  -- ---- below a closed one
  module _ (c : Assignment) (closed : Closed b image plan c) (faultless : ArePointsFaultless b image plan c) (pc : AllWellFormed b c) where
    -- a duty of a smaller assignment's point, and the closed one's that asks for no less
    pub duty_above : (a : Assignment) → IsAssignmentBelow a c → AllWellFormed b a → (key : Key) (p : ℕ) (s : State) (d : Duty) → HasDuty b image plan a key p s d
        → (t : State) × (e : Duty) × HasDuty b image plan c key p t e × Covers t s × IsWellFormedState b t × IsDutyBelow d e
    duty_above a below pa key p s d h =
        let o = below (point key p) (state s) h.at in
        let up = over_state o.known s o.covers in
        let at : c (point key p) ≡ Some (state up.0) = o.at ∙ ap (λ (w : Known). Some w) up.1 in
        let pt = pc (point key p) (state up.0) at in
        let fine = faultless key p up.0 at in
        let e = laws.duties_grow key p s up.0 h.shape h.size h.owed (pa (point key p) (state s) h.at) pt up.2 fine h.code h.listed in (
          up.0,
          (e.0).duty,
          record { at = at; faultless = fine; shape = h.shape; size = h.size; code = h.code; owed = e.0; listed = e.1; is = refl },
          up.2,
          pt,
          subst (λ (u : Duty). IsDutyBelow u (e.0).duty) h.is (e.2).duty,
        )

    pub asks_covered : (a : Assignment) → IsAssignmentBelow a c → AllWellFormed b a → (y : Place) (v : Known) → AsksFor b image plan a y v → AssignmentCovers c y v
    asks_covered a below pa y v k =
        let up = duty_above a below pa k.key k.addr k.before k.duty k.has in
        let r = incoming_rises a c below pa pc k.key k.before up.0 (pa (point k.key k.addr) (state k.before) (k.has).at) up.4 up.3 k.duty up.1 up.5 y v k.asks in
        let there : AsksFor b image plan c y r.0 = record { key = k.key; addr = k.addr; before = up.0; duty = up.1; has = up.2; asks = r.1 } in
        let o = closed.duties y r.0 there in
        record { known = o.known; at = o.at; covers = laws.covers_through v r.0 o.known (asks_well_formed a y v pa k) (asks_well_formed c y r.0 pc there) o.covers r.2 }

    raised_covered : (o : Option Known) (v known top : Known) → ((w : Known) → o ≡ Some w → IsWellFormedKnown b w × CoversKnown top w) → IsWellFormedKnown b v → IsWellFormedKnown b top → CoversKnown top v → joined_at_place b o v ≡ Some known
        → IsWellFormedKnown b known × CoversKnown top known
    raised_covered None v known top old pv pt h is = let e : v ≡ known = cc in (subst (IsWellFormedKnown b) e pv, subst (CoversKnown top) e h)
    raised_covered (Some w) v known top old pv pt h is =
        let g = old w refl in
        let l = laws.joined_least w v top g.0 pv pt g.1 h in
        let e : l.0 ≡ known = (let q : Some l.0 ≡ Some known = sym l.1 ∙ is in cc) in
        (laws.joined_well_formed w v known g.0 pv is, subst (CoversKnown top) e l.2)

    -- one join stays below
    pub joined_below : (a after : Assignment) (y : Place) → IsAssignmentBelow a c × AllWellFormed b a → Joins b image plan a after y → IsAssignmentBelow after c × AllWellFormed b after
    joined_below a after y stays j =
        let top = asks_covered a stays.0 stays.1 y j.value j.asks in
        let ptop = pc y top.known top.at in
        let old : (w : Known) → a y ≡ Some w → IsWellFormedKnown b w × CoversKnown top.known w =
        λ w at. (let h = stays.0 y w at in
        (stays.1 y w at, (let same : h.known ≡ top.known = (let q : Some h.known ≡ Some top.known = sym h.at ∙ top.at in cc) in subst (λ (k : Known). CoversKnown k w) same h.covers))) in
        let new = raised_covered (a y) j.value j.known top.known old (asks_well_formed a y j.value stays.1 j.asks) ptop top.covers j.raises in
        let each : (x : Place) (s : Known) → after x ≡ Some s → AssignmentCovers c x s × IsWellFormedKnown b s =
        λ x s at. elim (from_if (is_same_place x y) j.known (a x) (after x) s (j.is x) at) [
          | inl h ↦ (let e = place_tells x y h.0 in
              (record { known = top.known; at = ap c e ∙ top.at; covers = subst (CoversKnown top.known) h.1 new.1 }, subst (IsWellFormedKnown b) h.1 new.0))
          | inr h ↦ (stays.0 x s h.1, stays.1 x s h.1)
        ] in
        ((λ x s at. (each x s at).0), (λ x s at. (each x s at).1))

    start_below : (a : Assignment) → ((x : Place) → a x ≡ (if is_same_place x (start_place image plan) then Some (state (start_state plan)) else None)) → IsAssignmentBelow a c × AllWellFormed b a
    start_below a is =
        let each : (x : Place) (s : Known) → a x ≡ Some s → AssignmentCovers c x s × IsWellFormedKnown b s =
        λ x s at. elim (from_if (is_same_place x (start_place image plan)) (state (start_state plan)) None (a x) s (is x) at) [
          | inl h ↦ (let e = place_tells x (start_place image plan) h.0 in
              (record { known = closed.start.known; at = ap c e ∙ closed.start.at; covers = subst (CoversKnown closed.start.known) h.1 closed.start.covers }, subst (IsWellFormedKnown b) h.1 laws.start_well_formed))
          | inr h ↦ (let q : None ≡ Some s = h.1 in cc)
        ] in
        ((λ x s at. (each x s at).0), (λ x s at. (each x s at).1))

    pub derived_below : (a : Assignment) → Derived b image plan a → IsAssignmentBelow a c × AllWellFormed b a
    derived_below _ (begins a is) = start_below a is
    derived_below _ (joins a after y d j) = joined_below a after y (derived_below a d) j

    -- so no point of a derived one has a fault of its own, and no join fails
    pub derived_faultless : (a : Assignment) → Derived b image plan a → ArePointsFaultless b image plan a
    derived_faultless a d k p s at =
        let h = derived_below a d in
        let o = h.0 (point k p) (state s) at in
        let up = over_state o.known s o.covers in
        let there : c (point k p) ≡ Some (state up.0) = o.at ∙ ap (λ (w : Known). Some w) up.1 in
        laws.faults_fall k p s up.0 (h.1 (point k p) (state s) at) (pc (point k p) (state up.0) there) up.2 (faultless k p up.0 there)

    pub derived_joins : (a : Assignment) → Derived b image plan a → (y : Place) (v w : Known) → AsksFor b image plan a y v → a y ≡ Some w → joined_known b w v ≡ None → ⊥
    derived_joins a d y v w k at none =
        let h = derived_below a d in
        let top = asks_covered a h.0 h.1 y v k in
        let o = h.0 y w at in
        let same : o.known ≡ top.known = (let q : Some o.known ≡ Some top.known = sym o.at ∙ top.at in cc) in
        let l = laws.joined_least w v top.known (h.1 y w at) (asks_well_formed a y v h.1 k) (pc y top.known top.at) (subst (λ (z : Known). CoversKnown z w) same o.covers) top.covers in
        let q : None ≡ Some l.0 = sym none ∙ l.1 in cc

    stands_above : (a : Assignment) → IsAssignmentBelow a c → (x : Place) → IsSome (a x) → IsSome (c x)
    stands_above a below x some = at (a x) refl some where
      at : (o : Option Known) → a x ≡ o → IsSome o → IsSome (c x)
      at None e is = cc
      at (Some s) e is = let d = below x s e in subst (λ (o : Option Known). IsSome o) (sym d.at) refl

    -- a limit that a derived one passes is passed by the closed one
    pub nodes_above : (a : Assignment) → IsAssignmentBelow a c → HasTooManyNodes a → HasTooManyNodes c
    nodes_above a below h = record {
      keys = h.keys;
      distinct = h.distinct;
      stand = λ k has. (let o = h.stand k has in (o.0, stands_above a below o.0 o.1, o.2));
      more = h.more;
    }

    pub points_above : (a : Assignment) → IsAssignmentBelow a c → HasTooManyPoints a → HasTooManyPoints c
    points_above a below h = record {
      places = h.places;
      distinct = h.distinct;
      stand = λ x has. (let o = h.stand x has in (stands_above a below x o.0, o.1));
      more = h.more;
    }

    large_above : (a : Assignment) → IsAssignmentBelow a c → IsPastCertLimits a → IsPastCertLimits c
    large_above a below h = elim h [ inl n ↦ inl (nodes_above a below n) | inr n ↦ inr (points_above a below n) ]

    -- if there is a closed one without faults and within the limits, no derived one has a fault
    fault_of : (a : Assignment) (r : ℕ) (k : Key) (p : ℕ) → Derived b image plan a → IsFaultInAssignment b image plan a r k p → ⊥
    fault_of a _ _ _ d (own r k p s at is) = is.fails (derived_faultless a d k p s at r)
    fault_of a _ _ _ d (locals k p s t at asks none) = derived_joins a d (point k p) (state t) (state s) asks at (unjoined s t none) where
      unjoined : (s t : State) → state_join_if_any b s t ≡ None → joined_known b (state s) (state t) ≡ None
      unjoined s t e = rw e refl

    pub fault_refuted : (IsPastCertLimits c → ⊥) → (r : ℕ) (k : Key) (p : ℕ) → IsRefusalFault b image plan r k p → ⊥
    fault_refuted within _ _ _ (derived a r k p d h) = fault_of a r k p d h
    fault_refuted within _ _ _ (limits k p h) = within (large_above h.after (derived_below h.after (joins h.before h.after (point k p) h.derived h.joins)).0 h.more)
