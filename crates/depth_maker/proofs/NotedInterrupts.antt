-- Entries of handlers that the last contexts of interrupts show as covered, and the context that a
-- point notes.
use Rattle.std.proofs.Common.{◌≡◌, ℕ, false, IsTrue, Some, Contains, refl, sym, subst}
use Rattle.elf_image.specs.Images.{ImageData}
use Rattle.tcd_plan.specs.PlanData.{PlanData}
use Rattle.value_domain.specs.declared.states.State.{State}
use Rattle.value_domain.specs.Limits.{AreLimits, Limits}
use Rattle.depth_cert.specs.declared.keys.Key.{Key}
use Rattle.depth_cert.specs.WellFormed.{IsWellFormedState}
use Rattle.cfg_recover.specs.Assignments.{point}
use Rattle.cfg_recover.specs.Duties.{Owed, interrupt_duties_of}
use Rattle.frame_places.specs.Marks.{is_queued, mark_of_place}
use Rattle.depth_maker.specs.InterruptHandlers.{AreHandlersCovered, AreContextsCovered, IsEqualExceptSp, IsContextCovered, IsContextOf, IsWithinContext, joined_context}
use Rattle.vd_transfer.specs.Registers.{a10_of}
use Rattle.depth_maker.specs.TableLevels.{level_of_table}
use Rattle.depth_maker.specs.MakerLaws.{AreMakerLaws}
use Rattle.depth_maker.specs.SpotsAsPlaces.{spot_of}
use Rattle.depth_maker.specs.TableInvariant.{TableInvariantHolds}
use Rattle.depth_maker.specs.TableView.{view_of_table}
use Rattle.depth_maker.specs.VisitDuties.{VisitedPointOwes, AreDutiesJoined}
use Rattle.depth_maker.specs.declared.interrupt_contexts.InterruptContext.{InterruptContext}
use Rattle.depth_maker.specs.declared.interrupt_contexts.LastInterrupts.{LastInterrupts}
use Rattle.depth_maker.specs.declared.table.Table as made
use Rattle.depth_maker.proofs.InterruptLaws.{interrupts_new, interrupts_settle}
use Rattle.depth_maker.proofs.JoinedContexts.{contexts_join}
use Rattle.depth_maker.proofs.PartLemmas.{keeps_all, owed_well_formed}
use Rattle.depth_maker.proofs.TableLaws.{derived_well_formed}

module _ (b : Limits) (image : ImageData) (plan : PlanData) (k : Key) (p : ℕ) (u : State) where
  -- nothing has to be joined
  pub duties_already : (s : made.Table) (h : InterruptContext) → TableInvariantHolds b image plan s → AreHandlersCovered b plan (view_of_table s).cells h → IsWithinContext h k.is u → AreDutiesJoined b image plan s s k p u (interrupt_duties_of plan k u)
  duties_already s h fine entered asks = record {
    fine = fine;
    keeps = keeps_all b image plan s;
    settled = λ free d c. interrupts_settle b plan (view_of_table s) k p u h entered asks d c;
  }

  -- other contexts are noted
  contexts_noted : (s m : made.Table) (interrupts : LastInterrupts) → AreContextsCovered b plan (view_of_table m).cells interrupts
      → AreDutiesJoined b image plan s m k p u (interrupt_duties_of plan k u) → AreDutiesJoined b image plan s (record m { covered = record { interrupts = interrupts; calls = (m.covered).calls } }) k p u (interrupt_duties_of plan k u)
  unfolding view_of_table level_of_table
  contexts_noted s m interrupts entered paid = record {
    fine = record {
      table = (paid.fine).table;
      listed = (paid.fine).listed;
      counted = (paid.fine).counted;
      covered = (entered, (paid.fine).covered.1);
      exits = (paid.fine).exits;
      readers = (paid.fine).readers;
      plain = (paid.fine).plain;
    };
    keeps = record {
      each = (paid.keeps).each;
      readers = (paid.keeps).readers;
      read = (paid.keeps).read;
      settled = (paid.keeps).settled;
      rises = (paid.keeps).rises;
      near = (paid.keeps).near;
      numbers = (paid.keeps).numbers;
    };
    settled = paid.settled;
  }

  module _ (laws : AreMakerLaws b image plan) (s m : made.Table) (pu : IsWellFormedState b u) (on : IsTrue u.ie) (owes : (d : Owed) → Contains (interrupt_duties_of plan k u) d → VisitedPointOwes b image plan k p u d.duty)
      (free : is_queued (mark_of_place m.places (spot_of (point k p))) ≡ false) (paid : AreDutiesJoined b image plan s m k p u (interrupt_duties_of plan k u)) where
    -- the entries of the point are covered
    point_entered : (h : InterruptContext) → IsContextOf h k.is u → AreHandlersCovered b plan (view_of_table m).cells h
    point_entered h from = interrupts_new b plan (view_of_table m) k p u h from pu on (λ d c. owed_well_formed b image plan k p u laws d.duty pu (owes d c)) (λ d c. paid.settled free d c)

    -- the context of the point is noted
    pub joined_and_noted : (h : InterruptContext) → IsContextOf h k.is u
        → AreDutiesJoined b image plan s (record m { covered = record { interrupts = record { last = Some h; before = (m.covered).interrupts.last }; calls = (m.covered).calls } }) k p u (interrupt_duties_of plan k u)
    joined_and_noted h from = contexts_noted s m (record { last = Some h; before = (m.covered).interrupts.last }) (point_entered h from, (paid.fine).covered.0.0) paid

    -- it is joined with the last one
    pub joined_with_last : (h : InterruptContext) → AreLimits b → IsEqualExceptSp h k.is u → (m.covered).interrupts.last ≡ Some h
        → AreDutiesJoined b image plan s (record m { covered = record { interrupts = record { last = Some (joined_context b h (a10_of u)); before = (m.covered).interrupts.before }; calls = (m.covered).calls } }) k p u (interrupt_duties_of plan k u)
    joined_with_last h limits alike last =
        let g : InterruptContext = record { is = k.is; sp = a10_of u; ccpn = u.ccpn } in
        let cells = (view_of_table m).cells in
        let entered : AreHandlersCovered b plan cells h = subst (IsContextCovered b plan cells) last (paid.fine).covered.0.0 in
        let well_formed = derived_well_formed b image plan laws cells ((paid.fine).table).derived in
        let both = contexts_join b cells limits well_formed plan h g (sym alike.same) (sym alike.ccpn) entered (point_entered g (record { same = refl; sp = refl; ccpn = refl })) in
        contexts_noted s m (record { last = Some (joined_context b h (a10_of u)); before = (m.covered).interrupts.before }) (both, (paid.fine).covered.0.1) paid
