-- Covered entries stay covered as the table rises, and the entries of functions cover those of a
-- call that asks for no more.
use Rattle.std.proofs.Common.{◌≡◌, ℕ, zero, suc, List, ◌∷◌, Some, sym, ◌∙◌, subst, arith, Contains, map, take, drop}
use Rattle.std.proofs.lemmas.List.{take-append-drop}
use Rattle.std.proofs.lemmas.List.Elements.{Contains-append_left}
use Rattle.elf_image.specs.Images.{ImageData}
use Rattle.tcd_plan.specs.PlanData.{PlanData}
use Rattle.value_domain.specs.declared.states.State.{State}
use Rattle.value_domain.specs.Limits.{Limits}
use Rattle.depth_cert.specs.declared.keys.Key.{Key}
use Rattle.depth_cert.specs.Keys.{call_kind}
use Rattle.depth_cert.specs.Known.{Known, CoversKnown, joined_known, state}
use Rattle.depth_cert.specs.WellFormed.{IsWellFormedState, IsWellFormedKnown}
use Rattle.cfg_recover.specs.Assignments.{Assignment, AssignmentCovers, Joins, Place, point}
use Rattle.cfg_recover.specs.Duties.{Owed, enter, owed}
use Rattle.cfg_recover.specs.Entries.{call_key}
use Rattle.cfg_recover.proofs.Members.{contains_map}
use Rattle.depth_maker.specs.Covered.{AreCallsCovered, AreCachedEntriesCovered, AreLastCallsCovered, IsCallOf, called_key}
use Rattle.depth_maker.specs.WellFormedAssignments.{AllWellFormed}
use Rattle.depth_maker.specs.MakerLaws.{AreMakerLaws}
use Rattle.depth_maker.specs.TableView.{TableView}
use Rattle.depth_maker.specs.TableInvariant.{IsDutySettled}
use Rattle.depth_maker.specs.declared.covered.CoveredEntries.{CoveredEntries}
use Rattle.depth_maker.specs.declared.last_call.LastCall.{LastCall}
use Rattle.depth_maker.proofs.DutyGrowth.{contained_map}
use Rattle.depth_maker.proofs.InterruptLaws.{interrupts_again, interrupts_stay}
use Rattle.depth_maker.proofs.TableLaws.{covers_stays}

-- ---- as the table rises
-- values only grow
call_stays : (b : Limits) (image : ImageData) (plan : PlanData) (laws : AreMakerLaws b image plan) (a after : Assignment) (y : Place) (well_formed : AllWellFormed b a) (j : Joins b image plan a after y) (x : LastCall)
    → AreCallsCovered b a x → AreCallsCovered b after x
call_stays b image plan laws a after y well_formed j x h = record {
  well_formed = h.well_formed;
  each = λ t c. covers_stays b image plan laws a after y well_formed j (point (called_key x t) t) x.entry h.well_formed (h.each t c);
}

pub covered_stay : (b : Limits) (image : ImageData) (plan : PlanData) (laws : AreMakerLaws b image plan) (a after : Assignment) (y : Place) (well_formed : AllWellFormed b a) (j : Joins b image plan a after y) (covered : CoveredEntries)
    → AreCachedEntriesCovered b plan a covered → AreCachedEntriesCovered b plan after covered
covered_stay b image plan laws a after y well_formed j covered h = (interrupts_stay b image plan laws a after y well_formed j covered.interrupts h.0, λ x c. call_stays b image plan laws a after y well_formed j x (h.1 x c))

-- the same values
call_again : (b : Limits) (a after : Assignment) → ((q : Place) → after q ≡ a q) → (x : LastCall) → AreCallsCovered b a x → AreCallsCovered b after x
call_again b a after same x h = record {
  well_formed = h.well_formed;
  each = λ t c.
      let e = h.each t c in
      record { known = e.known; at = same (point (called_key x t) t) ∙ e.at; covers = e.covers };
}

pub covered_again : (b : Limits) (plan : PlanData) (a after : Assignment) → ((q : Place) → after q ≡ a q) → (covered : CoveredEntries) → AreCachedEntriesCovered b plan a covered → AreCachedEntriesCovered b plan after covered
covered_again b plan a after same covered h = (interrupts_again b plan a after same covered.interrupts h.0, λ x c. call_again b a after same x (h.1 x c))

-- ---- calls
-- the frame that a call enters
same_frame : (h : LastCall) (k : Key) (targets : List ℕ) (v : Known) → IsCallOf h k targets v → (q : ℕ) → called_key h q ≡ call_key k q
same_frame h k targets v of q = λ i. record { kind = call_kind; entry = q; prio = of.prio i; is = of.is i }

-- the state of a covered call is covered at each entry
pub call_covers : (b : Limits) (a : Assignment) (h : LastCall) (k : Key) (targets : List ℕ) → AreCallsCovered b a h → IsCallOf h k targets h.entry → (q : ℕ) → Contains targets q → AssignmentCovers a (point (call_key k q) q) h.entry
call_covers b a h k targets entered of q c =
    subst (λ (l : Key). AssignmentCovers a (point l q) h.entry) (same_frame h k targets h.entry of q) (entered.each q (subst (λ (l : List ℕ). Contains l q) (sym of.targets) c))

-- a call with a state that is covered at each entry
pub call_new : (b : Limits) (a : Assignment) (h : LastCall) (k : Key) (targets : List ℕ) (v : Known) → IsCallOf h k targets v → IsWellFormedKnown b v → ((q : ℕ) → Contains targets q → AssignmentCovers a (point (call_key k q) q) v) → AreCallsCovered b a h
call_new b a h k targets v of well_formed covered = record {
  well_formed = subst (IsWellFormedKnown b) (sym of.entry) well_formed;
  each = λ q c.
      subst (λ (w : Known). AssignmentCovers a (point (called_key h q) q) w) (sym of.entry)
      (subst (λ (l : Key). AssignmentCovers a (point l q) v) (sym (same_frame h k targets v of q)) (covered q (subst (λ (l : List ℕ). Contains l q) of.targets c)));
}

-- the entries that a call asks for are covered
pub call_settles : (b : Limits) (image : ImageData) (plan : PlanData) (laws : AreMakerLaws b image plan) (t : TableView) (k : Key) (p : ℕ) (u s : State) (h : LastCall) (targets : List ℕ) → AreCallsCovered b t.cells h → IsCallOf h k targets h.entry
    → IsWellFormedState b s → CoversKnown h.entry (state s) → (d : Owed) → Contains (map (λ (q : ℕ). owed 5 (enter (call_key k q) s)) targets) d → IsDutySettled t k p u d.duty
call_settles b image plan laws t k p u s h targets entered of well_formed below d c =
    let r = contained_map (λ (q : ℕ). owed 5 (enter (call_key k q) s)) targets d c in
    let e = call_covers b t.cells h k targets entered of r.0 r.1 in
    subst (λ (o : Owed). IsDutySettled t k p u o.duty) r.2 (record { known = e.known; at = e.at; covers = laws.covers_through (state s) h.entry e.known well_formed entered.well_formed e.covers below })

-- what two states ask of a place is covered there, so their join is
pub both_covered : (b : Limits) (image : ImageData) (plan : PlanData) (laws : AreMakerLaws b image plan) (a : Assignment) (y : Place) (v w e : Known) → AllWellFormed b a → IsWellFormedKnown b v → IsWellFormedKnown b w → joined_known b v w ≡ Some e
    → AssignmentCovers a y v → AssignmentCovers a y w → AssignmentCovers a y e
both_covered b image plan laws a y v w e all pv pw is old new =
    let same : old.known ≡ new.known = (let f : Some old.known ≡ Some new.known = sym old.at ∙ new.at in cc) in
    let l = laws.joined_least v w new.known pv pw (all y new.known new.at) (subst (λ (z : Known). CoversKnown z v) same old.covers) new.covers in
    let joined : l.0 ≡ e = (let f : Some l.0 ≡ Some e = sym l.1 ∙ is in cc) in
    record { known = new.known; at = new.at; covers = subst (CoversKnown new.known) joined l.2 }

-- the calls after one was put before the first of them
pub calls_after : (b : Limits) (a : Assignment) (h : LastCall) (n : ℕ) (calls : List LastCall) → AreCallsCovered b a h → AreLastCallsCovered b a calls → AreLastCallsCovered b a (h ∷ take n calls)
calls_after b a h n calls new old x (zero, lt, e) = subst (AreCallsCovered b a) e new
calls_after b a h n calls new old x (suc i, lt, e) = old x (subst (λ (l : List LastCall). Contains l x) (take-append-drop n calls) (Contains-append_left (take n calls) (drop n calls) x (i, omega arith, e)))
