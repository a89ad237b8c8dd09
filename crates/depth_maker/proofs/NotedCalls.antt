-- Entries of functions that a last call shows as covered, the call that a point notes, and the two
-- halves of a call.
use Rattle.std.proofs.Common.{◌≡◌, ℕ, inl, inr, List, [], ◌∷◌, ◌++◌, map, false, Some, subst, arith, Contains}
use Rattle.std.specs.Prelude.{Result, Ok, Err, OnOk}
use Rattle.std.specs.List.{flat_map}
use Rattle.std.specs.declared.vec.Vec.{Vec}
use Rattle.std.specs.declared.alloc.Global.{Global}
use Rattle.std.proofs.lemmas.List.Elements.{Contains-append_left, Contains-append_right, Contains-push_cases}
use Rattle.elf_image.specs.Images.{ImageData}
use Rattle.tcd_plan.specs.PlanData.{PlanData}
use Rattle.value_domain.specs.declared.states.State.{State}
use Rattle.value_domain.specs.Limits.{Limits}
use Rattle.depth_cert.specs.declared.keys.Key.{Key}
use Rattle.depth_cert.specs.Known.{Known, CoversKnown, joined_known, state}
use Rattle.depth_cert.specs.WellFormed.{IsWellFormedKnown, IsWellFormedState}
use Rattle.cfg_recover.specs.Assignments.{AssignmentCovers, point}
use Rattle.cfg_recover.specs.Duties.{Owed, enter, entry_and_return, owed, resume}
use Rattle.cfg_recover.specs.Entries.{call_entry, call_key}
use Rattle.cfg_recover.proofs.Members.{contains_first, contains_flat, contains_map}
use Rattle.frame_places.specs.Marks.{is_queued, mark_of_place}
use Rattle.frame_places.specs.declared.refusals.Refusal.{Refusal}
use Rattle.depth_maker.specs.Covered.{AreCallsCovered, AreLastCallsCovered, IsCallOf}
use Rattle.depth_maker.specs.TableLevels.{level_of_table}
use Rattle.depth_maker.specs.MakerLaws.{AreMakerLaws}
use Rattle.depth_maker.specs.SpotsAsPlaces.{spot_of}
use Rattle.depth_maker.specs.TableInvariant.{TableInvariantHolds, IsDutySettled}
use Rattle.depth_maker.specs.TableView.{TableView, view_of_table}
use Rattle.depth_maker.specs.VisitDuties.{AreDutiesJoined, VisitedPointOwes}
use Rattle.depth_maker.specs.Visits.{IsVisitedWithState}
use Rattle.depth_maker.specs.declared.last_call.LastCall.{LastCall}
use Rattle.depth_maker.specs.declared.table.Table as made
use Rattle.depth_maker.proofs.CoveredLaws.{both_covered, call_covers, call_settles}
use Rattle.depth_maker.proofs.DutyGrowth.{contained_flat, contained_map}
use Rattle.depth_maker.proofs.TableLaws.{derived_well_formed}
use Rattle.depth_maker.proofs.PartLemmas.{duties_both, keeps_all}

module _ (b : Limits) (image : ImageData) (plan : PlanData) (k : Key) (p : ℕ) (u : State) where
  abbrev entered : ℕ → Owed
  entered q = owed 5 (enter (call_key k q) (call_entry u))

  abbrev resumed : ℕ → ℕ → Owed
  resumed back q = owed 4 (resume (call_key k q) back)

  abbrev called : ℕ → ℕ → List Owed
  called back q = entry_and_return 5 (call_key k q) (call_entry u) back

  -- the entry of a call is at the limits
  pub entry_well_formed : IsWellFormedState b u → IsWellFormedState b (call_entry u)
  entry_well_formed well_formed = record { regs = well_formed.regs; values = well_formed.values; few = omega arith }

  -- nothing has to be joined
  pub enters_already : (laws : AreMakerLaws b image plan) (s : made.Table) (h : LastCall) (targets : List ℕ) → TableInvariantHolds b image plan s → IsWellFormedState b u → AreCallsCovered b (view_of_table s).cells h → IsCallOf h k targets h.entry → CoversKnown h.entry (state (call_entry u))
      → AreDutiesJoined b image plan s s k p u (map entered targets)
  enters_already laws s h targets fine well_formed covered of below = record {
    fine = fine;
    keeps = keeps_all b image plan s;
    settled = λ free d c. call_settles b image plan laws (view_of_table s) k p u (call_entry u) h targets covered of (entry_well_formed well_formed) below d c;
  }

  -- the entry of a call is covered at each of its functions if the point's duties are
  pub entry_covered : (t : TableView) (targets : List ℕ) → ((d : Owed) → Contains (map entered targets) d → IsDutySettled t k p u d.duty) → (q : ℕ) → Contains targets q → AssignmentCovers t.cells (point (call_key k q) q) (state (call_entry u))
  entry_covered t targets settled q c = settled (entered q) (contains_map entered targets q c)

  -- so is its join with the state of a last call of these functions
  pub both_entries : (laws : AreMakerLaws b image plan) (s : made.Table) (h : LastCall) (targets : List ℕ) (e : Known) → TableInvariantHolds b image plan s → IsWellFormedState b u → Contains (s.covered).calls.items h → IsCallOf h k targets h.entry
      → joined_known b h.entry (state (call_entry u)) ≡ Some e
      → IsWellFormedKnown b e × (((d : Owed) → Contains (map entered targets) d → IsDutySettled (view_of_table s) k p u d.duty) → (q : ℕ) → Contains targets q → AssignmentCovers (view_of_table s).cells (point (call_key k q) q) e)
  both_entries laws s h targets e fine well_formed last of is =
      let covered = fine.covered.1 h last in (
        laws.joined_well_formed h.entry (state (call_entry u)) e covered.well_formed (entry_well_formed well_formed) is,
        λ settled q c. both_covered b image plan laws (view_of_table s).cells (point (call_key k q) q) h.entry (state (call_entry u)) e (derived_well_formed b image plan laws (view_of_table s).cells (fine.table).derived) covered.well_formed (entry_well_formed well_formed) is
            (call_covers b (view_of_table s).cells h k targets covered of q c) (entry_covered (view_of_table s) targets settled q c),
      )

  -- the call of the point is noted
  pub call_noted : (s m : made.Table) (calls : Vec LastCall Global) (targets : List ℕ)
      → is_queued (mark_of_place m.places (spot_of (point k p))) ≡ false → (((d : Owed) → Contains (map entered targets) d → IsDutySettled (view_of_table m) k p u d.duty) → AreLastCallsCovered b (view_of_table m).cells calls.items) → AreDutiesJoined b image plan s m k p u (map entered targets)
      → AreDutiesJoined b image plan s (record m { covered = record { interrupts = (m.covered).interrupts; calls = calls } }) k p u (map entered targets)
  unfolding view_of_table level_of_table
  call_noted s m calls targets free covered paid = record {
    fine = record {
      table = (paid.fine).table;
      listed = (paid.fine).listed;
      counted = (paid.fine).counted;
      covered = ((paid.fine).covered.0, covered (paid.settled free));
      exits = (paid.fine).exits;
      readers = (paid.fine).readers;
      plain = (paid.fine).plain;
    };
    keeps = record {
      each = (paid.keeps).each;
      readers = (paid.keeps).readers;
      read = (paid.keeps).read;
      settled = (paid.keeps).settled;
      rises = (paid.keeps).rises;
      near = (paid.keeps).near;
      numbers = (paid.keeps).numbers;
    };
    settled = paid.settled;
  }

  -- ---- the two halves of a call
  -- an entry of a call is one of its duties, and so is a return
  pub owes_entered : (back : ℕ) (targets : List ℕ) → ((d : Owed) → Contains (flat_map (called back) targets) d → VisitedPointOwes b image plan k p u d.duty) → (d : Owed) → Contains (map entered targets) d → VisitedPointOwes b image plan k p u d.duty
  owes_entered back targets owes d c =
      let r = contained_map entered targets d c in
      owes d (contains_flat (called back) d r.0 targets r.1 (subst (Contains (called back r.0)) r.2 (contains_first (entered r.0) (resumed back r.0 ∷ []))))

  pub owes_resumed : (back : ℕ) (targets : List ℕ) → ((d : Owed) → Contains (flat_map (called back) targets) d → VisitedPointOwes b image plan k p u d.duty) → (d : Owed) → Contains (map (resumed back) targets) d → VisitedPointOwes b image plan k p u d.duty
  owes_resumed back targets owes d c =
      let r = contained_map (resumed back) targets d c in
      owes d
      (contains_flat (called back) d r.0 targets r.1
      (subst (Contains (called back r.0)) r.2 (Contains-append_right (entered r.0 ∷ []) (resumed back r.0 ∷ []) (resumed back r.0) (contains_first (resumed back r.0) []))))

  -- the entries, and then the returns
  both_halves : (laws : AreMakerLaws b image plan) (s m t : made.Table) (back : ℕ) (targets : List ℕ) → IsVisitedWithState b image plan s k p u → ((d : Owed) → Contains (flat_map (called back) targets) d → VisitedPointOwes b image plan k p u d.duty)
      → AreDutiesJoined b image plan s m k p u (map entered targets) → AreDutiesJoined b image plan m t k p u (map (resumed back) targets) → AreDutiesJoined b image plan s t k p u (flat_map (called back) targets)
  both_halves laws s m t back targets visited owes first then_ =
      let both = duties_both b image plan k p u laws s m t (map entered targets) (map (resumed back) targets) visited (owes_entered back targets owes) first then_ in
      record { fine = both.fine; keeps = both.keeps; settled = λ free d c. both.settled free d (halves d c) }
    where
      halves : (d : Owed) → Contains (flat_map (called back) targets) d → Contains (map entered targets ++ map (resumed back) targets) d
      halves d c =
          let r = contained_flat (called back) targets d c in
          elim (Contains-push_cases (entered r.0 ∷ []) (resumed back r.0) d r.2) [
            | inl i ↦
                (let e : Contains (entered r.0 ∷ []) d = i in
                elim (Contains-push_cases [] (entered r.0) d e) [
                  | inl n ↦ absurd (omega (arith, n.1))
                  | inr same ↦ subst (Contains (map entered targets ++ map (resumed back) targets)) same (Contains-append_left (map entered targets) (map (resumed back) targets) (entered r.0) (contains_map entered targets r.0 r.1))
                ])
            | inr same ↦ subst (Contains (map entered targets ++ map (resumed back) targets)) same (Contains-append_right (map entered targets) (map (resumed back) targets) (resumed back r.0) (contains_map (resumed back) targets r.0 r.1))
          ]

  pub on_halves : (laws : AreMakerLaws b image plan) (s m t : made.Table) (back : ℕ) (targets : List ℕ) (r : Result (Unit {0}) Refusal) → IsVisitedWithState b image plan s k p u
      → ((d : Owed) → Contains (flat_map (called back) targets) d → VisitedPointOwes b image plan k p u d.duty) → AreDutiesJoined b image plan s m k p u (map entered targets)
      → OnOk r (AreDutiesJoined b image plan m t k p u (map (resumed back) targets)) → OnOk r (AreDutiesJoined b image plan s t k p u (flat_map (called back) targets))
  on_halves laws s m t back targets (Ok _) visited owes first h = both_halves laws s m t back targets visited owes first h
  on_halves laws s m t back targets (Err e) visited owes first h = tt
