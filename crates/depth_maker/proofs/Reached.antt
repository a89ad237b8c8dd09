-- In a derived assignment each frame has its entry point, and each is entered from the start.
use Rattle.std.proofs.Common.{◌≡◌, ◌⊎◌, inl, inr, ℕ, ◌≤◌, Some, None, refl, sym, ap, subst}
use Rattle.elf_image.specs.Images.{ImageData}
use Rattle.tcd_plan.specs.PlanData.{PlanData}
use Rattle.value_domain.specs.declared.states.State.{State}
use Rattle.value_domain.specs.Limits.{Limits}
use Rattle.depth_cert.specs.declared.keys.Key.{Key}
use Rattle.cfg_recover.specs.Entries.{start_key, start_state}
use Rattle.cfg_recover.specs.Duties.{Duty, jump, enter, resume, leave}
use Rattle.cfg_recover.specs.Assignments.{Place, point, exit, Assignment, is_same_place, key_of_place, asked_by_duty, HasDuty, Joins, Derived, begins, joins, Closed, start_place, ArePointsFaultless, EntersInAssignment}
use Rattle.depth_cert.specs.Known.{Known, state, leaving}
use Rattle.cfg_recover.specs.CertRefusals.{AreSufficientNeeds, IsFrameReachedFrom, here, by_entry}
use Rattle.depth_maker.specs.WellFormedAssignments.{AllWellFormed}
use Rattle.depth_maker.specs.MakerLaws.{AreMakerLaws}
use Rattle.depth_maker.proofs.PlaceLaws.{place_tells, from_if, resumed_some}
use Rattle.depth_maker.proofs.Below.{derived_below}
use Rattle.depth_maker.proofs.NeedLaws.{entered_above, reached_less}

-- the entry point of a frame
abbrev pub entry_of : Key → Place
entry_of k = point k k.entry

-- ---- the place that a duty asks for
-- in its own frame, or at the entry of one that it enters
pub asked_where : (a : Assignment) (key : Key) (s : State) (d : Duty) (y : Place) (v : Known) → asked_by_duty a key s d ≡ Some (y, v)
    → (key_of_place y ≡ key) ⊎ ((k : Key) × (u : State) × (d ≡ enter k u) × (y ≡ entry_of k))
asked_where a key s (jump q t) y v e = let f : (point key q, state t) ≡ (y, v) = cc in inl (sym (ap (λ (w : Place × Known). key_of_place w.0) f))
asked_where a key s (enter k t) y v e = let f : (point k k.entry, state t) ≡ (y, v) = cc in inr (k, t, refl, sym (ap (λ (w : Place × Known). w.0) f))
asked_where a key s (resume k q) y v e = let r = resumed_some key s k q (a (exit k)) y v e in inl (sym (ap key_of_place r.2))
asked_where a key s (leave x) y v e = let f : (exit key, leaving x) ≡ (y, v) = cc in inl (sym (ap (λ (w : Place × Known). key_of_place w.0) f))

module _ (b : Limits) (image : ImageData) (plan : PlanData) where
  -- ---- from the start
  -- a frame that a reached one enters is reached
  pub reaches_then : (c : Assignment) (j t : Key) (p : ℕ) (s : State) → EntersInAssignment b image plan c j p s t → (k : Key) → IsFrameReachedFrom b image plan c j k → IsFrameReachedFrom b image plan c t k
  reaches_then c j t p s e _ here = by_entry j p s t e here
  reaches_then c j t p s e _ (by_entry k q u l f r) = by_entry k q u l f (reaches_then c j t p s e l r)

  module _ (laws : AreMakerLaws b image plan) (c : Assignment) (closed : Closed b image plan c) (faultless : ArePointsFaultless b image plan c) (pc : AllWellFormed b c) where
    joined_reached : (a after : Assignment) (y : Place) → Derived b image plan a → Joins b image plan a after y
        → ((x : Place) (v : Known) → a x ≡ Some v → IsFrameReachedFrom b image plan c (key_of_place x) (start_key image plan)) → IsFrameReachedFrom b image plan c (key_of_place y) (start_key image plan)
    joined_reached a after y d j old =
        let k = j.asks in
        let from = old (point k.key k.addr) (state k.before) (k.has).at in
        let h = derived_below b image plan laws c closed faultless pc a d in
        elim (asked_where a k.key k.before k.duty y j.value k.asks) [
          | inl same ↦ subst (λ (z : Key). IsFrameReachedFrom b image plan c z (start_key image plan)) (sym same) from
          | inr e ↦
              (let has : EntersInAssignment b image plan a k.key k.addr k.before e.0 = record { entered = e.1; has = subst (HasDuty b image plan a k.key k.addr k.before) e.2 k.has } in
              let up = entered_above b image plan laws c closed faultless pc a h.0 h.1 k.key k.addr k.before e.0 has in
              subst (λ (z : Place). IsFrameReachedFrom b image plan c (key_of_place z) (start_key image plan)) (sym e.3) (reaches_then c k.key e.0 k.addr up.0 up.1 (start_key image plan) from))
        ]

    -- each frame of a derived assignment is entered from the start in the closed one
    pub derived_reached : (a : Assignment) → Derived b image plan a → (y : Place) (v : Known) → a y ≡ Some v → IsFrameReachedFrom b image plan c (key_of_place y) (start_key image plan)
    derived_reached _ (begins a is) y v at =
        elim (from_if (is_same_place y (start_place image plan)) (state (start_state plan)) None (a y) v (is y) at) [
          | inl h ↦ subst (λ (z : Place). IsFrameReachedFrom b image plan c (key_of_place z) (start_key image plan)) (sym (place_tells y (start_place image plan) h.0)) here
          | inr h ↦ (let q : None ≡ Some v = h.1 in cc)
        ]
    derived_reached _ (joins a after z d j) y v at =
        elim (from_if (is_same_place y z) j.known (a y) (after y) v (j.is y) at) [
          | inl h ↦ subst (λ (x : Place). IsFrameReachedFrom b image plan c (key_of_place x) (start_key image plan)) (sym (place_tells y z h.0)) (joined_reached a after z d j (derived_reached a d))
          | inr h ↦ derived_reached a d y v h.1
        ]

    -- so no frame needs more than the start
    pub needs_at_most : (a : Assignment) → Derived b image plan a → (needs : Key → ℕ) → AreSufficientNeeds b image plan c needs → (y : Place) (v : Known) → a y ≡ Some v → needs (key_of_place y) ≤ needs (start_key image plan)
    needs_at_most a d needs m y v at = reached_less b image plan c needs m (key_of_place y) (start_key image plan) (derived_reached a d y v at)
