-- Needs of a closed assignment meet those of each one below it. If some needs are met, no frame is
-- reached from itself.
use Rattle.std.proofs.Common.{◌≡◌, ℕ, ◌^◌, ◌<◌, ◌≤◌, length, sym, ap, ◌∙◌, subst, arith, Some}
use Rattle.elf_image.specs.Images.{ImageData}
use Rattle.tcd_plan.specs.PlanData.{PlanData}
use Rattle.value_domain.specs.declared.states.State.{State}
use Rattle.value_domain.specs.Limits.{Limits}
use Rattle.depth_cert.specs.declared.keys.Key.{Key}
use Rattle.depth_cert.specs.Certs.{CertData, IsCert}
use Rattle.cfg_recover.specs.Duties.{Duty, enter}
use Rattle.cfg_recover.specs.RulesHoldOrFail.{limits_of_cert, Accepts}
use Rattle.cfg_recover.specs.Assignments.{point, Assignment, assignment_of_cert, IsAssignmentBelow, Derived, Closed, HasDuty, ArePointsFaultless, EntersInAssignment}
use Rattle.depth_cert.specs.Known.{Known, state}
use Rattle.cfg_recover.specs.CertRefusals.{AreSufficientNeeds, IsFrameReachedFrom, here, by_entry, EntersRecursion, IsRefusalWithLimits, fault, recursion, need, IsRefusalFault}
use Rattle.depth_maker.specs.DutiesMonotone.{AreMakerInputs, IsDutyBelow}
use Rattle.depth_maker.proofs.StateGrowth.{same_locals}
use Rattle.depth_maker.specs.WellFormedAssignments.{AllWellFormed}
use Rattle.depth_maker.specs.MakerLaws.{AreMakerLaws}
use Rattle.depth_maker.proofs.Below.{derived_below, duty_above, fault_refuted}
use Rattle.depth_maker.proofs.Lawful.{lawful}
use Rattle.depth_maker.proofs.Accepted.{accepted_well_formed, accepted_faultless, accepted_closed, accepted_needs, accepted_start_need, need_in}
use Rattle.depth_maker.proofs.Sizes.{accepted_within}
use Rattle.cfg_recover.proofs.KnownPlaces.{over_state}

-- a duty that asks for no less than an entry is an entry of the same frame
enters_above : (t : Key) (u : State) (e : Duty) → IsDutyBelow (enter t u) e → (w : State) × (e ≡ enter t w)
enters_above t u (enter j w) h = (w, ap (λ (k : Key). enter k w) (sym h.0))
enters_above t u _ h = absurd h

module _ (b : Limits) (image : ImageData) (plan : PlanData) (laws : AreMakerLaws b image plan) (c : Assignment) (closed : Closed b image plan c) (faultless : ArePointsFaultless b image plan c) (pc : AllWellFormed b c) where
  -- an entry of a smaller assignment is one of the closed one, with as many locals
  pub entered_above : (a : Assignment) → IsAssignmentBelow a c → AllWellFormed b a → (k : Key) (p : ℕ) (s : State) (t : Key) → EntersInAssignment b image plan a k p s t
      → (u : State) × EntersInAssignment b image plan c k p u t × (length u.locals.items ≡ length s.locals.items)
  entered_above a below pa k p s t h =
      let up = duty_above b image plan laws c closed faultless pc a below pa k p s (enter t h.entered) h.has in
      let e = enters_above t h.entered up.1 up.5 in
      (up.0, record { entered = e.0; has = subst (λ (d : Duty). HasDuty b image plan c k p up.0 d) e.1 up.2 }, same_locals up.0 s up.3)

  pub needs_below : (a : Assignment) → IsAssignmentBelow a c → AllWellFormed b a → (needs : Key → ℕ) → AreSufficientNeeds b image plan c needs → AreSufficientNeeds b image plan a needs
  needs_below a below pa needs m = record {
    locals = λ k p s e.
        let o = below (point k p) (state s) e in
        let up = over_state o.known s o.covers in
        let le = m.locals k p up.0 (o.at ∙ ap (λ (w : Known). Some w) up.1) in
        omega (arith, same_locals up.0 s up.2);
    entered = λ k p s t h.
        let up = entered_above a below pa k p s t h in
        let le = m.entered k p up.0 t up.1 in
        omega (arith, up.2);
  }

-- a frame that is reached by entries needs no more
pub reached_less : (b : Limits) (image : ImageData) (plan : PlanData) (a : Assignment) (needs : Key → ℕ) → AreSufficientNeeds b image plan a needs → (j k : Key) → IsFrameReachedFrom b image plan a j k → needs j ≤ needs k
reached_less b image plan a needs m j _ here = omega arith
reached_less b image plan a needs m j _ (by_entry k p s t e r) = omega (arith, m.entered k p s t e, reached_less b image plan a needs m j t r)

-- if some needs are met, no frame is reached from itself
pub no_recursion : (b : Limits) (image : ImageData) (plan : PlanData) (a : Assignment) (needs : Key → ℕ) → AreSufficientNeeds b image plan a needs → (k : Key) (p : ℕ) → EntersRecursion b image plan a k p → ⊥
no_recursion b image plan a needs m k p r =
    absurd (omega (arith, m.entered k p r.before r.into r.enters, reached_less b image plan a needs m k r.into r.back))

-- ---- refusals
module _ (image : ImageData) (plan : PlanData) (cert : CertData) (ground : AreMakerInputs (limits_of_cert plan cert) image plan) (entry : image.entry < 2 ^ 32) (is_cert : IsCert cert) (accepted : Accepts image plan cert) where
  -- no derived assignment has a fault
  pub accepted_refutes : (r : ℕ) (k : Key) (p : ℕ) → IsRefusalFault (limits_of_cert plan cert) image plan r k p → ⊥
  accepted_refutes =
      fault_refuted (limits_of_cert plan cert) image plan (lawful (limits_of_cert plan cert) image plan ground) (assignment_of_cert cert) (accepted_closed image plan cert ground entry is_cert accepted)
      (accepted_faultless image plan cert ground entry is_cert accepted) (accepted_well_formed image plan cert ground entry is_cert accepted) (accepted_within image plan cert ground entry is_cert accepted)

  -- the needs of a certificate meet those of each derived assignment
  pub derived_needs : (a : Assignment) → Derived (limits_of_cert plan cert) image plan a → AreSufficientNeeds (limits_of_cert plan cert) image plan a (need_in image plan cert ground entry is_cert accepted)
  derived_needs a d =
      let laws = lawful (limits_of_cert plan cert) image plan ground in
      let closed = accepted_closed image plan cert ground entry is_cert accepted in
      let faultless = accepted_faultless image plan cert ground entry is_cert accepted in
      let well_formed = accepted_well_formed image plan cert ground entry is_cert accepted in
      let h = derived_below (limits_of_cert plan cert) image plan laws (assignment_of_cert cert) closed faultless well_formed a d in
      needs_below (limits_of_cert plan cert) image plan laws (assignment_of_cert cert) closed faultless well_formed a h.0 h.1 (need_in image plan cert ground entry is_cert accepted) (accepted_needs image plan cert ground entry is_cert accepted)

  -- no refusal holds
  pub refusal_refuted : (r : ℕ) (k : Key) (p : ℕ) → IsRefusalWithLimits (limits_of_cert plan cert) image plan r k p → ⊥
  refusal_refuted _ _ _ (fault r k p f) = accepted_refutes r k p f
  refusal_refuted _ _ _ (recursion a k p least first) =
      no_recursion (limits_of_cert plan cert) image plan a (need_in image plan cert ground entry is_cert accepted) (derived_needs a least.derived) k p first.recurs
  refusal_refuted _ _ _ (need a least many) =
      absurd (omega (arith, many.above (need_in image plan cert ground entry is_cert accepted) (derived_needs a least.derived), accepted_start_need image plan cert ground entry is_cert accepted))
