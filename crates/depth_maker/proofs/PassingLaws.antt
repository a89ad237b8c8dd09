-- Points whose instruction only passes the state on.
use Rattle.std.proofs.Common.{◌≡◌, ℕ, ◌<◌, Bool, false, inl, inr, List, [], ◌∷◌, ◌++◌, Option, Some, None, refl, sym, ap, subst, ◌∙◌, Contains}
use Rattle.std.specs.Prelude.{Result, Ok, Err, OnOk, IfSome, IsSome, unwrap_or}
use Rattle.std.proofs.lemmas.List.{append-nil}
use Rattle.std.proofs.lemmas.List.Elements.{Contains-append_cases, Contains-append_left, Contains-append_right, Contains-push}
use Rattle.elf_image.specs.Images.{ImageData}
use Rattle.tcd_plan.specs.PlanData.{PlanData}
use Rattle.tc_isa.specs.declared.shapes.Target.{Target}
use Rattle.tc_isa.specs.declared.shapes.Shape.TheVariants.{Jump, Nothing}
use Rattle.tc_isa.specs.InBounds.{IsShapeInBounds}
use Rattle.tc_machine.specs.Instructions.{wrapping_sum}
use Rattle.value_domain.specs.declared.states.State.{State}
use Rattle.value_domain.specs.Limits.{Limits}
use Rattle.vd_transfer.specs.EffectsOnStates.{transfer_of}
use Rattle.depth_cert.specs.declared.keys.Key.{Key}
use Rattle.depth_cert.specs.Known.{state}
use Rattle.depth_cert.specs.WellFormed.{IsWellFormedState}
use Rattle.cfg_recover.specs.Code.{IsCode}
use Rattle.cfg_recover.specs.LocalRules.{targets_of}
use Rattle.cfg_recover.specs.LocalFaults.{IsFaultless}
use Rattle.cfg_recover.specs.Duties.{Owed, owed, jump, jump_duties_to, interrupt_duties_of, duties_of}
use Rattle.cfg_recover.specs.Assignments.{AsksFor, point}
use Rattle.cfg_recover.proofs.LocalLaws.{LocalHolds-found}
use Rattle.frame_places.specs.declared.places.Spot.{Spot}
use Rattle.frame_places.specs.declared.places.Spot.TheVariants.{Point}
use Rattle.frame_places.specs.declared.refusals.Refusal.{Refusal}
use Rattle.frame_places.specs.Marks.{IsAmongReaders}
use Rattle.frame_places.specs.Spots.{spot_eq}
use Rattle.frame_places.proofs.MarkLemmas.{Requeues-none, same_value}
use Rattle.indexmap.specs.IndexMap.{get}
use Rattle.depth_maker.specs.InterruptHandlers.{IsContextCovered, HasCoveringContextForCcpn}
use Rattle.depth_maker.specs.MakerLaws.{AreMakerLaws}
use Rattle.depth_maker.specs.SharedStates.{PassesStateTo}
use Rattle.depth_maker.specs.SpotsAsPlaces.{place_of_spot, spot_of}
use Rattle.depth_maker.specs.TableView.{view_of_table}
use Rattle.depth_maker.specs.TableInvariant.{TableInvariantHolds}
use Rattle.depth_maker.specs.Joins.{IsJoinedAt, RaisesOnlyPlace, JoinKeepsPlaces}
use Rattle.depth_maker.specs.VisitDuties.{AreDutiesJoined, VisitedPointOwes}
use Rattle.depth_maker.specs.Visits.{VisitJoinsDuties, VisitJoinsDutiesForInputs}
use Rattle.depth_maker.specs.declared.inputs_and_limits.Ground.{Ground}
use Rattle.depth_maker.specs.declared.table.Table as made
use Rattle.depth_maker.proofs.DutyParts.{interrupts_off}
use Rattle.frame_places.proofs.ReaderLemmas.{none_forgotten}
use Rattle.depth_maker.proofs.JoinLemmas.{exits_after, the_joined}
use Rattle.depth_maker.proofs.NotedInterrupts.{duties_already}
use Rattle.depth_maker.proofs.PartLemmas.{Keeps-trans, duties_all, duties_jump, duties_none, duties_then, has_duty_at, jump_asks, owed_well_formed}

-- ---- the instructions
nothing_duties : (b : Limits) (image : ImageData) (plan : PlanData) (p n : ℕ) (k : Key) (u : State) → duties_of b image plan k p u Nothing n ≡ owed 4 (jump (wrapping_sum p n) u) ∷ interrupt_duties_of plan k u
unfolding duties_of transfer_of
nothing_duties b image plan p n k u = append-nil (owed 4 (jump (wrapping_sum p n) u) ∷ interrupt_duties_of plan k u)

pub nothing_passes : (image : ImageData) (plan : PlanData) (p n : ℕ) → IsCode image plan p Nothing n → IsShapeInBounds Nothing → PassesStateTo image plan p (wrapping_sum p n)
nothing_passes image plan p n code shaped = record {
  shape = Nothing;
  size = n;
  code = code;
  shaped = shaped;
  local = λ b k u r. record { targets = λ e. tt; returns = λ e. tt; exceptions = λ e. tt; room = λ e. tt; stores = λ e. tt; accesses = λ e. tt; system = λ e. tt; writes = λ e. tt };
  duties = λ b k u. nothing_duties b image plan p n k u;
  enters = λ b k q u m rule. (refl, refl);
}

jump_duties : (b : Limits) (image : ImageData) (plan : PlanData) (p n : ℕ) (to : Target) (next : ℕ) (k : Key) (u : State) → targets_of plan u p to ≡ Some (next ∷ [])
    → duties_of b image plan k p u (Jump to) n ≡ owed 4 (jump next u) ∷ interrupt_duties_of plan k u
unfolding duties_of
jump_duties b image plan p n to next k u known =
    ap (λ (o : Option (List ℕ)). (((jump_duties_to u (unwrap_or o []) ++ []) ++ []) ++ interrupt_duties_of plan k u) ++ []) known ∙ append-nil (owed 4 (jump next u) ∷ interrupt_duties_of plan k u)

pub jump_passes : (image : ImageData) (plan : PlanData) (p n : ℕ) (to : Target) (o : Option ℕ) → IsCode image plan p (Jump to) n → IsShapeInBounds (Jump to)
    → IfSome o (λ next. (plan : PlanData) (s : State) → targets_of plan s p to ≡ Some (next ∷ [])) → IfSome o (PassesStateTo image plan p)
jump_passes image plan p n to None code shaped known = tt
jump_passes image plan p n to (Some next) code shaped known = record {
  shape = Jump to;
  size = n;
  code = code;
  shaped = shaped;
  local = λ b k u r. record {
    targets = λ e. subst (λ (o : Option (List ℕ)). IsSome o) (sym (known plan u)) refl;
    returns = λ e. tt;
    exceptions = λ e. tt;
    room = λ e. tt;
    stores = λ e. tt;
    accesses = λ e. tt;
    system = λ e. tt;
    writes = λ e. tt;
  };
  duties = λ b k u. jump_duties b image plan p n to next k u (known plan u);
  enters = λ b k q u m rule. (refl, refl);
}

-- ---- interrupts
module _ (b : Limits) (image : ImageData) (plan : PlanData) (k : Key) (p : ℕ) (u : State) where
  -- they are off
  pub quiet_off : (s : made.Table) → TableInvariantHolds b image plan s → u.ie ≡ false → AreDutiesJoined b image plan s s k p u (interrupt_duties_of plan k u)
  quiet_off s fine off = subst (λ (ds : List Owed). AreDutiesJoined b image plan s s k p u ds) (interrupts_off plan k u off) (duties_none b image plan k p u s fine)

  -- the last context shows that their entries are covered
  pub quiet_noted : (s : made.Table) → TableInvariantHolds b image plan s → HasCoveringContextForCcpn s k.is u.ccpn → AreDutiesJoined b image plan s s k p u (interrupt_duties_of plan k u)
  quiet_noted s fine h = duties_already b image plan k p u s h.context fine (subst (IsContextCovered b plan (view_of_table s).cells) h.last fine.covered.0.0) (h.within u refl)

  -- the order in which parts are joined
  turned : (s t : made.Table) (ds es : List Owed) → AreDutiesJoined b image plan s t k p u (ds ++ es) → AreDutiesJoined b image plan s t k p u (es ++ ds)
  turned s t ds es h = record {
    fine = h.fine;
    keeps = h.keeps;
    settled = λ free d c.
        elim (Contains-append_cases es ds d c) [
          | inl i ↦ h.settled free d (Contains-append_right ds es d i)
          | inr i ↦ h.settled free d (Contains-append_left ds es d i)
        ];
  }

  module _ (s : made.Table) (next : ℕ) (at : (view_of_table s).cells (point k p) ≡ Some (state u)) (passes : PassesStateTo image plan p next) where
    -- ---- a visit
    faultless : IsFaultless b image plan k p u
    faultless r = LocalHolds-found b image plan k p u passes.shape passes.size r passes.code (passes.local b k u r)

    owes : (d : Owed) → Contains ((owed 4 (jump next u) ∷ []) ++ interrupt_duties_of plan k u) d → VisitedPointOwes b image plan k p u d.duty
    owes d c = record {
      faultless = faultless;
      shape = passes.shape;
      size = passes.size;
      code = passes.code;
      owed = d;
      listed = subst (λ (ds : List Owed). Contains ds d) (sym (passes.duties b k u)) c;
      is = refl;
    }

    -- the state flows into the successor
    pub passing_asks : AsksFor b image plan (view_of_table s).cells (place_of_spot (Point k next)) (state u)
    passing_asks =
        jump_asks b image plan k p u s next u
        (has_duty_at b image plan k p u s (jump next u) at
        (owes (owed 4 (jump next u)) (Contains-append_left (owed 4 (jump next u) ∷ []) (interrupt_duties_of plan k u) (owed 4 (jump next u)) (Contains-push [] (owed 4 (jump next u))))))

    -- the successor was unknown, and has the state of the point now
    pub passed_on : (laws : AreMakerLaws b image plan) (t : made.Table) → TableInvariantHolds b image plan s → IsWellFormedState b u → AreDutiesJoined b image plan s s k p u (interrupt_duties_of plan k u) → u.ccpn < 256
        → RaisesOnlyPlace b s t (Point k next) (state u) → VisitJoinsDuties b image plan s t (Point k p)
    passed_on laws t fine well_formed irqs small rose =
        let joined : IsJoinedAt b image plan s t (Point k next) (state u) =
        the_joined b image plan laws s t t (Point k next) (state u) passing_asks rose (Requeues-none t.places (IsAmongReaders (get spot_eq s.readers (Point k next))) (λ q h. fine.exits k next q h)) rose.listed refl (none_forgotten t.readers (Point k next) (exits_after b image plan s t (Point k next) (state u) fine rose k next)) refl refl refl fine small in
        let both = duties_then b image plan k p u s s t (interrupt_duties_of plan k u) (owed 4 (jump next u) ∷ []) well_formed
        (λ d c. owed_well_formed b image plan k p u laws d.duty well_formed (owes d (Contains-append_right (owed 4 (jump next u) ∷ []) (interrupt_duties_of plan k u) d c))) irqs (duties_jump b image plan k p u s t 4 next u joined) in
        duties_all b image plan k p u s t passes.shape passes.size at faultless passes.code
        (subst (λ (ds : List Owed). AreDutiesJoined b image plan s t k p u ds) (sym (passes.duties b k u)) (turned s t (interrupt_duties_of plan k u) (owed 4 (jump next u) ∷ []) both))

-- a visit of the same places and values
again : (b : Limits) (image : ImageData) (plan : PlanData) (s m t : made.Table) (x : Spot) → m.places.entries ≡ s.places.entries → JoinKeepsPlaces b image plan s m → VisitJoinsDuties b image plan m t x → VisitJoinsDuties b image plan s t x
unfolding view_of_table
again b image plan s m t x places keeps h = record {
  fine = h.fine;
  keeps = Keeps-trans b image plan s m t keeps h.keeps;
  faultless = λ k p u e at. h.faultless k p u e (same_value s.places m.places places (spot_of (point k p)) ∙ at);
  settled = λ k p u e at. h.settled k p u e (same_value s.places m.places places (spot_of (point k p)) ∙ at);
}

pub visited_again : (g : Ground) (s m t : made.Table) (x : Spot) (r : Result Bool Refusal) → m.places.entries ≡ s.places.entries → JoinKeepsPlaces g.bounds.now g.image.now g.plan.now s m → OnOk r (VisitJoinsDutiesForInputs g m t x) → OnOk r (VisitJoinsDutiesForInputs g s t x)
visited_again g s m t x (Ok plain) places keeps h = again g.bounds.now g.image.now g.plan.now s m t x places keeps h
visited_again g s m t x (Err e) places keeps h = tt
