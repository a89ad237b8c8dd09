-- A visit, part by part: duties are joined in the order in which they are listed, and the list is
-- never built.
use Rattle.std.proofs.Common.{◌+◌, take, drop, get_or, map, ◌≡◌, ℕ, ◌<◌, Bool, true, false, inl, inr, List, [], ◌∷◌, ◌++◌, Option, Some, None, IsSome, refl, sym, ap, subst, ◌∙◌, arith, length, Contains}
use Rattle.std.specs.Prelude.{Result, Ok, Err, OnOk, is_some, if◌then◌else◌}
use Rattle.frame_places.specs.declared.refusals.Refusal.{Refusal}
use Rattle.indexmap.specs.IndexMap.{IndexMap, get}
use Rattle.std.proofs.lemmas.List.{take_more, take-append-drop, map-append}
use Rattle.std.proofs.lemmas.List.Elements.{Contains-get_or, Contains-append_cases, Contains-append_left, Contains-append_right, Contains-push, Contains-push_cases}
use Rattle.elf_image.specs.Images.{ImageData}
use Rattle.tcd_plan.specs.PlanData.{PlanData}
use Rattle.tc_isa.specs.declared.shapes.Shape.{Shape}
use Rattle.value_domain.specs.declared.states.State.{State}
use Rattle.value_domain.specs.Limits.{Limits}
use Rattle.depth_cert.specs.declared.keys.Key.{Key}
use Rattle.depth_cert.specs.declared.points.Exit.{Exit}
use Rattle.cfg_recover.specs.Code.{IsCode}
use Rattle.depth_cert.specs.Exits.{state_after_return}
use Rattle.cfg_recover.specs.LocalFaults.{IsFaultless, IsFaultlessShape}
use Rattle.cfg_recover.specs.Duties.{Duty, jump, enter, resume, leave, Owed, owed, entry_and_return, duties_of}
use Rattle.cfg_recover.specs.declared.local_rules.Located.{Located}
use Rattle.cfg_recover.proofs.Members.{contains_map}
use Rattle.cfg_recover.specs.Assignments.{Assignment, point, exit, HasDuty, AsksFor, Derived, joined_at_place, asked_by_resume}
use Rattle.depth_cert.specs.Known.{Known, state, leaving}
use Rattle.depth_cert.specs.WellFormed.{IsWellFormedState}
use Rattle.cfg_recover.proofs.CodeLaws.{IsCode-one}
use Rattle.depth_maker.specs.WellFormedAssignments.{IsWellFormedDuty}
use Rattle.depth_maker.specs.MakerLaws.{AreMakerLaws}
use Rattle.depth_maker.specs.Covered.{AreCachedEntriesCovered}
use Rattle.depth_maker.specs.TableView.{view_of_table}
use Rattle.depth_maker.specs.TableInvariant.{IsDutySettled, IsReturnCovered, OnlyExitsHaveReaders, TableInvariantHoldsForInputs, TableInvariantHolds}
use Rattle.depth_maker.proofs.PlaceLaws.{one_state}
use Rattle.depth_maker.proofs.TableLaws.{table_marked, settled_again}
use Rattle.frame_places.specs.declared.places.Spot.{Spot}
use Rattle.frame_places.specs.declared.places.Spot.TheVariants as spots
use Rattle.frame_places.specs.declared.places.Mark.{Mark}
use Rattle.frame_places.specs.declared.places.Mark.TheVariants.{Queued}
use Rattle.frame_places.specs.declared.places.Marked.{Marked}
use Rattle.frame_places.specs.Counting.{frames_after_recording, points_after_recording}
use Rattle.frame_places.proofs.MarkLemmas.{same_mark, same_number, same_value}
use Rattle.depth_maker.specs.declared.inputs_and_limits.Ground.{Ground}
use Rattle.frame_places.specs.Numbers.{PlaceHasNumber}
use Rattle.std.specs.Option.{option_map}
use Rattle.std.specs.declared.vec.Vec.{Vec}
use Rattle.std.specs.declared.alloc.Global.{Global}
use Rattle.depth_maker.specs.declared.table.Table as made
use Rattle.frame_places.specs.Spots.{spot_eq}
use Rattle.depth_maker.specs.SpotsAsPlaces.{spot_of, place_of_spot}
use Rattle.depth_maker.proofs.SpotLemmas.{back}
use Rattle.depth_maker.proofs.CountedLemmas.{counted_again}
use Rattle.depth_maker.proofs.CoveredLaws.{covered_again}
use Rattle.depth_maker.proofs.LevelSteps.{rises_then, same_level}
use Rattle.depth_maker.specs.VisitDuties.{AreDutiesJoined, VisitedPointOwes, AllDutiesSettled}
use Rattle.depth_maker.specs.Visits.{VisitJoinsDuties, IsVisitedWithState}
use Rattle.depth_maker.specs.Joins.{JoinsNothing, JoinKeepsPlaces, IsJoinedAt, RaisesOnlyPlace, JoinsWithoutRequeuing}
use Rattle.frame_places.specs.Marks.{is_idle, is_queued, IsAmongReaders, AddsReader, mark_of_place, value_of_place, AreKnownPlaces}
use Rattle.frame_places.specs.Work.{all_work}

pub keeps_all : (b : Limits) (image : ImageData) (plan : PlanData) (s : made.Table) → JoinKeepsPlaces b image plan s s
keeps_all b image plan s = record { each = λ x free. (refl, refl); readers = λ z x h free. h; read = λ z x h free. refl; settled = λ k p u d free pu pd h. h; rises = inr (refl, refl); near = refl; numbers = λ n q h. h }

pub Keeps-trans : (b : Limits) (image : ImageData) (plan : PlanData) (s m t : made.Table) → JoinKeepsPlaces b image plan s m → JoinKeepsPlaces b image plan m t → JoinKeepsPlaces b image plan s t
Keeps-trans b image plan s m t k l =
    let free : (x : Spot) → is_queued (mark_of_place t.places x) ≡ false → is_queued (mark_of_place m.places x) ≡ false = λ x f. sym (ap is_queued (l.each x f).0) ∙ f in
    record {
      each = λ x f. ((l.each x f).0 ∙ (k.each x (free x f)).0, (l.each x f).1 ∙ (k.each x (free x f)).1);
      readers = λ z x h f. l.readers z x (k.readers z x h (free x f)) f;
      read = λ z x h f. l.read z x (k.readers z x h (free x f)) f ∙ k.read z x h (free x f);
      settled = λ j p u d f pu pd h. l.settled j p u d f pu pd (k.settled j p u d (free (spot_of (point j p)) f) pu pd h);
      rises = rises_then s m t k.rises l.rises;
      near = l.near ∙ k.near;
      numbers = λ n q h. l.numbers n q (k.numbers n q h);
    }

module _ (b : Limits) (image : ImageData) (plan : PlanData) (k : Key) (p : ℕ) (u : State) where
  -- ---- parts
  pub duties_none : (s : made.Table) → TableInvariantHolds b image plan s → AreDutiesJoined b image plan s s k p u []
  duties_none s fine = record { fine = fine; keeps = keeps_all b image plan s; settled = λ free d c. absurd (omega (arith, c.1)) }

  pub duties_then : (s m t : made.Table) (ds es : List Owed) → IsWellFormedState b u → ((d : Owed) → Contains ds d → IsWellFormedDuty b d.duty) → AreDutiesJoined b image plan s m k p u ds → AreDutiesJoined b image plan m t k p u es
      → AreDutiesJoined b image plan s t k p u (ds ++ es)
  duties_then s m t ds es pu pd first then_ = record {
    fine = then_.fine;
    keeps = Keeps-trans b image plan s m t first.keeps then_.keeps;
    settled = λ free d c.
        elim (Contains-append_cases ds es d c) [
          | inl i ↦
              (let before : is_queued (mark_of_place m.places (spot_of (point k p))) ≡ false = sym (ap is_queued ((then_.keeps).each (spot_of (point k p)) free).0) ∙ free in
              (then_.keeps).settled k p u d.duty free pu (pd d i) (first.settled before d i))
          | inr i ↦ then_.settled free d i
        ];
  }

  -- ---- one duty
  only_one : (d e : Owed) → Contains (d ∷ []) e → d ≡ e
  only_one d e c = elim (Contains-push_cases [] d e c) [ inl n ↦ absurd (omega (arith, n.1)) | inr same ↦ same ]

  -- a jump, an entry or an exit is joined at its place
  pub duties_jump : (s t : made.Table) (rule q : ℕ) (v : State) → IsJoinedAt b image plan s t (spot_of (point k q)) (state v) → AreDutiesJoined b image plan s t k p u (owed rule (jump q v) ∷ [])
  duties_jump s t rule q v j = record {
    fine = j.fine;
    keeps = j.keeps;
    settled = λ free d c. subst (λ (e : Owed). IsDutySettled (view_of_table t) k p u e.duty) (only_one (owed rule (jump q v)) d c) j.covers;
  }

  pub duties_enter : (s t : made.Table) (rule : ℕ) (l : Key) (v : State) → IsJoinedAt b image plan s t (spot_of (point l l.entry)) (state v) → AreDutiesJoined b image plan s t k p u (owed rule (enter l v) ∷ [])
  duties_enter s t rule l v j = record {
    fine = j.fine;
    keeps = j.keeps;
    settled = λ free d c. subst (λ (e : Owed). IsDutySettled (view_of_table t) k p u e.duty) (only_one (owed rule (enter l v)) d c) j.covers;
  }

  pub duties_leave : (s t : made.Table) (rule : ℕ) (x : Exit) → IsJoinedAt b image plan s t (spot_of (exit k)) (leaving x) → AreDutiesJoined b image plan s t k p u (owed rule (leave x) ∷ [])
  duties_leave s t rule x j = record {
    fine = j.fine;
    keeps = j.keeps;
    settled = λ free d c. subst (λ (e : Owed). IsDutySettled (view_of_table t) k p u e.duty) (only_one (owed rule (leave x)) d c) j.covers;
  }

  -- a return: the point reads the exit, and if the exit is known, the state after it is joined
  pub duties_resume_none : (s : made.Table) (rule : ℕ) (l : Key) (q : ℕ) → TableInvariantHolds b image plan s → value_of_place s.places (spot_of (exit l)) ≡ None → IsAmongReaders (get spot_eq s.readers (spot_of (exit l))) (spot_of (point k p))
      → AreDutiesJoined b image plan s s k p u (owed rule (resume l q) ∷ [])
  unfolding view_of_table
  duties_resume_none s rule l q fine none told = record {
    fine = fine;
    keeps = keeps_all b image plan s;
    settled = λ free d c.
        subst (λ (e : Owed). IsDutySettled (view_of_table s) k p u e.duty) (only_one (owed rule (resume l q)) d c)
        ((λ x at. absurd (let no : None ≡ Some x = sym none ∙ at in cc)), told);
  }

  pub duties_resume : (s t : made.Table) (rule : ℕ) (l : Key) (q : ℕ) (x : Exit) → value_of_place s.places (spot_of (exit l)) ≡ Some (leaving x) → IsAmongReaders (get spot_eq s.readers (spot_of (exit l))) (spot_of (point k p))
      → IsJoinedAt b image plan s t (spot_of (point k q)) (state (state_after_return u x l.kind)) → AreDutiesJoined b image plan s t k p u (owed rule (resume l q) ∷ [])
  unfolding view_of_table
  duties_resume s t rule l q x there told j = record {
    fine = j.fine;
    keeps = j.keeps;
    settled = λ free d c.
        subst (λ (e : Owed). IsDutySettled (view_of_table t) k p u e.duty) (only_one (owed rule (resume l q)) d c) (
          (λ y at.
              let old : leaving x ≡ y = (let f : Some (leaving x) ≡ Some y = sym there ∙ sym ((j.keeps).read (spot_of (exit l)) (spot_of (point k p)) told free) ∙ at in cc) in
              subst (IsReturnCovered (view_of_table t) k u l q) old j.covers),
          (j.keeps).readers (spot_of (exit l)) (spot_of (point k p)) told free,
        );
  }

  -- ---- what flows out
  pub jump_asks : (t : made.Table) (q : ℕ) (v : State) → HasDuty b image plan (view_of_table t).cells k p u (jump q v) → AsksFor b image plan (view_of_table t).cells (place_of_spot (spot_of (point k q))) (state v)
  jump_asks t q v h = record { key = k; addr = p; before = u; duty = jump q v; has = h; asks = refl }

  pub enter_asks : (t : made.Table) (l : Key) (v : State) → HasDuty b image plan (view_of_table t).cells k p u (enter l v) → AsksFor b image plan (view_of_table t).cells (place_of_spot (spot_of (point l l.entry))) (state v)
  enter_asks t l v h = record { key = k; addr = p; before = u; duty = enter l v; has = h; asks = refl }

  pub leave_asks : (t : made.Table) (x : Exit) → HasDuty b image plan (view_of_table t).cells k p u (leave x) → AsksFor b image plan (view_of_table t).cells (place_of_spot (spot_of (exit k))) (leaving x)
  leave_asks t x h = record { key = k; addr = p; before = u; duty = leave x; has = h; asks = refl }

  pub resume_asks : (t : made.Table) (l : Key) (q : ℕ) (x : Exit) → value_of_place t.places (spot_of (exit l)) ≡ Some (leaving x) → HasDuty b image plan (view_of_table t).cells k p u (resume l q)
      → AsksFor b image plan (view_of_table t).cells (place_of_spot (spot_of (point k q))) (state (state_after_return u x l.kind))
  unfolding view_of_table
  resume_asks t l q x at h = record { key = k; addr = p; before = u; duty = resume l q; has = h; asks = ap (asked_by_resume k u l q) at }

  -- ---- between joins
  pub has_duty_at : (t : made.Table) (d : Duty) → (view_of_table t).cells (point k p) ≡ Some (state u) → VisitedPointOwes b image plan k p u d → HasDuty b image plan (view_of_table t).cells k p u d
  has_duty_at t d at o = record { at = at; faultless = o.faultless; shape = o.shape; size = o.size; code = o.code; owed = o.owed; listed = o.listed; is = o.is }

  pub has_duty : (t : made.Table) (d : Duty) → IsVisitedWithState b image plan t k p u → is_queued (mark_of_place t.places (spot_of (point k p))) ≡ false → VisitedPointOwes b image plan k p u d → HasDuty b image plan (view_of_table t).cells k p u d
  has_duty t d v free o = has_duty_at t d (v.at free) o

  -- the point has new work already
  pub duties_queued : (s : made.Table) (ds : List Owed) → IsVisitedWithState b image plan s k p u → is_queued (mark_of_place s.places (spot_of (point k p))) ≡ true → AreDutiesJoined b image plan s s k p u ds
  duties_queued s ds v queued = record {
    fine = v.fine;
    keeps = keeps_all b image plan s;
    settled = λ free d c. absurd (let no : true ≡ false = sym queued ∙ free in cc);
  }

  pub stands_kept : (s t : made.Table) → JoinKeepsPlaces b image plan s t → PlaceHasNumber s.places s.near (spot_of (point k p)) → PlaceHasNumber t.places t.near (spot_of (point k p))
  stands_kept s t keeps h = subst (λ (n : ℕ). PlaceHasNumber t.places n (spot_of (point k p))) (sym keeps.near) (keeps.numbers s.near (spot_of (point k p)) h)

  pub visited_kept : (s t : made.Table) → IsVisitedWithState b image plan s k p u → TableInvariantHolds b image plan t → JoinKeepsPlaces b image plan s t → IsVisitedWithState b image plan t k p u
  unfolding view_of_table
  visited_kept s t v fine keeps = record {
    fine = fine;
    well_formed = v.well_formed;
    at = λ free. (keeps.each (spot_of (point k p)) free).1 ∙ v.at (sym (ap is_queued (keeps.each (spot_of (point k p)) free).0) ∙ free);
    stands = stands_kept s t keeps v.stands;
  }

  pub visited_after : (s t : made.Table) (ds : List Owed) → IsVisitedWithState b image plan s k p u → AreDutiesJoined b image plan s t k p u ds → IsVisitedWithState b image plan t k p u
  visited_after s t ds v paid = visited_kept s t v paid.fine paid.keeps

  -- duties are at the limits
  pub owed_well_formed : (laws : AreMakerLaws b image plan) (d : Duty) → IsWellFormedState b u → VisitedPointOwes b image plan k p u d → IsWellFormedDuty b d
  owed_well_formed laws d well_formed o = subst (IsWellFormedDuty b) o.is (laws.duties_well_formed k p u o.shape o.size o.owed well_formed o.faultless o.code o.listed)

  pub duties_both : (laws : AreMakerLaws b image plan) (s m t : made.Table) (ds es : List Owed) → IsVisitedWithState b image plan s k p u → ((d : Owed) → Contains ds d → VisitedPointOwes b image plan k p u d.duty)
      → AreDutiesJoined b image plan s m k p u ds → AreDutiesJoined b image plan m t k p u es → AreDutiesJoined b image plan s t k p u (ds ++ es)
  duties_both laws s m t ds es v owes first then_ = duties_then s m t ds es v.well_formed (λ d c. owed_well_formed laws d.duty v.well_formed (owes d c)) first then_

  pub duties_from : (s m t : made.Table) (ds : List Owed) → JoinKeepsPlaces b image plan s m → AreDutiesJoined b image plan m t k p u ds → AreDutiesJoined b image plan s t k p u ds
  duties_from s m t ds keeps paid = record { fine = paid.fine; keeps = Keeps-trans b image plan s m t keeps paid.keeps; settled = paid.settled }

  pub owes_front : (ds es : List Owed) → ((d : Owed) → Contains (ds ++ es) d → VisitedPointOwes b image plan k p u d.duty) → (d : Owed) → Contains ds d → VisitedPointOwes b image plan k p u d.duty
  owes_front ds es h d c = h d (Contains-append_left ds es d c)

  pub owes_back : (ds es : List Owed) → ((d : Owed) → Contains (ds ++ es) d → VisitedPointOwes b image plan k p u d.duty) → (d : Owed) → Contains es d → VisitedPointOwes b image plan k p u d.duty
  owes_back ds es h d c = h d (Contains-append_right ds es d c)

  pub owes_one : (o : Owed) → ((d : Owed) → Contains (o ∷ []) d → VisitedPointOwes b image plan k p u d.duty) → VisitedPointOwes b image plan k p u o.duty
  owes_one o h = h o (Contains-push [] o)

  pub owes_alone : (o : Owed) → VisitedPointOwes b image plan k p u o.duty → (d : Owed) → Contains (o ∷ []) d → VisitedPointOwes b image plan k p u d.duty
  owes_alone o h d c = subst (λ (e : Owed). VisitedPointOwes b image plan k p u e.duty) (only_one o d c) h

  -- ---- one duty, and its return, for each of a list
  pub owes_both : (rule back : ℕ) (l : Key) (v : State) → ((d : Owed) → Contains (entry_and_return rule l v back) d → VisitedPointOwes b image plan k p u d.duty) → VisitedPointOwes b image plan k p u (enter l v) × VisitedPointOwes b image plan k p u (resume l back)
  owes_both rule back l v h = (
    owes_one (owed rule (enter l v)) (owes_front (owed rule (enter l v) ∷ []) (owed 4 (resume l back) ∷ []) h),
    owes_one (owed 4 (resume l back)) (owes_back (owed rule (enter l v) ∷ []) (owed 4 (resume l back) ∷ []) h),
  )

  pub owes_at_map : (g : ℕ → Owed) (ts : List ℕ) (i : ℕ) → i < length ts → ((d : Owed) → Contains (map g ts) d → VisitedPointOwes b image plan k p u d.duty) → VisitedPointOwes b image plan k p u (g (get_or ts i 0)).duty
  owes_at_map g ts i lt h = h (g (get_or ts i 0)) (contains_map g ts (get_or ts i 0) (Contains-get_or ts i 0 lt))

  pub duties_more_map : (laws : AreMakerLaws b image plan) (s m t : made.Table) (g : ℕ → Owed) (ts : List ℕ) (i : ℕ) → i < length ts → IsVisitedWithState b image plan s k p u
      → ((d : Owed) → Contains (map g ts) d → VisitedPointOwes b image plan k p u d.duty) → AreDutiesJoined b image plan s m k p u (map g (take i ts)) → AreDutiesJoined b image plan m t k p u (g (get_or ts i 0) ∷ [])
      → AreDutiesJoined b image plan s t k p u (map g (take (i + 1) ts))
  duties_more_map laws s m t g ts i lt v owes first then_ =
      subst (AreDutiesJoined b image plan s t k p u) (sym (ap (map g) (take_more ts i 0 lt) ∙ map-append g (take i ts) (get_or ts i 0 ∷ [])))
      (duties_both laws s m t (map g (take i ts)) (g (get_or ts i 0) ∷ []) v
      (λ d c. owes d (subst (λ (l : List ℕ). Contains (map g l) d) (take-append-drop i ts) (subst (λ (l : List Owed). Contains l d) (sym (map-append g (take i ts) (drop i ts))) (Contains-append_left (map g (take i ts)) (map g (drop i ts)) d c))))
      first then_)

  -- all that is owed, from the instruction at the point
  pub owes_duties : (found : Located) → IsFaultlessShape b image plan k p u found → (d : Owed) → Contains (duties_of b image plan k p u found.shape found.size) d → VisitedPointOwes b image plan k p u d.duty
  owes_duties found f d c = record { faultless = f.faultless; shape = found.shape; size = found.size; code = f.code; owed = d; listed = c; is = refl }

  -- ---- the whole
  pub duties_all : (s t : made.Table) (shape : Shape) (n : ℕ) → (view_of_table s).cells (point k p) ≡ Some (state u) → IsFaultless b image plan k p u → IsCode image plan p shape n
      → AreDutiesJoined b image plan s t k p u (duties_of b image plan k p u shape n) → VisitJoinsDuties b image plan s t (spot_of (point k p))
  duties_all s t shape n at fine code paid = record {
    fine = paid.fine;
    keeps = paid.keeps;
    faultless = λ l q w e here. carried l q w e here (λ l q w. IsFaultless b image plan l q w) fine;
    settled = λ l q w e here free.
        carried l q w e here (λ l q w. AllDutiesSettled b image plan t l q w)
        (record {
          each = λ shape2 m d code2 c.
              let one = IsCode-one image plan p shape2 shape m n code2 code in
              paid.settled free d
              (subst (λ (z : Shape). Contains (duties_of b image plan k p u z n) d) one.0 (subst (λ (z : ℕ). Contains (duties_of b image plan k p u shape2 z) d) one.1 c));
        });
  } where
    carried : (l : Key) (q : ℕ) (w : State) → place_of_spot (spot_of (point k p)) ≡ point l q → (view_of_table s).cells (point l q) ≡ Some (state w) → (P : Key → ℕ → State → Type 0) → P k p u → P l q w
    carried l q w e here P h =
        let key : k ≡ l = cc in
        let addr : p ≡ q = cc in
        let same : u ≡ w =
        one_state u w (let f : Some (state u) ≡ Some (state w) = sym at ∙ ap (view_of_table s).cells e ∙ here in cc) in
        subst (λ (z : State). P l q z) same (subst (λ (z : ℕ). P l z u) addr (subst (λ (z : Key). P z p u) key h))

  -- ---- for the results of calls
  pub on_jump : (s t : made.Table) (rule q : ℕ) (v : State) (r : Result (Unit {0}) Refusal) → OnOk r (IsJoinedAt b image plan s t (spot_of (point k q)) (state v)) → OnOk r (AreDutiesJoined b image plan s t k p u (owed rule (jump q v) ∷ []))
  on_jump s t rule q v (Ok x) h = duties_jump s t rule q v h
  on_jump s t rule q v (Err e) h = tt

  pub on_enter : (s t : made.Table) (rule : ℕ) (l : Key) (v : State) (r : Result (Unit {0}) Refusal) → OnOk r (IsJoinedAt b image plan s t (spot_of (point l l.entry)) (state v))
      → OnOk r (AreDutiesJoined b image plan s t k p u (owed rule (enter l v) ∷ []))
  on_enter s t rule l v (Ok x) h = duties_enter s t rule l v h
  on_enter s t rule l v (Err e) h = tt

  pub on_leave : (s t : made.Table) (rule : ℕ) (x : Exit) (r : Result (Unit {0}) Refusal) → OnOk r (IsJoinedAt b image plan s t (spot_of (exit k)) (leaving x)) → OnOk r (AreDutiesJoined b image plan s t k p u (owed rule (leave x) ∷ []))
  on_leave s t rule x (Ok _) h = duties_leave s t rule x h
  on_leave s t rule x (Err e) h = tt

  pub on_resume : (s t : made.Table) (rule : ℕ) (l : Key) (q : ℕ) (x : Exit) (r : Result (Unit {0}) Refusal) → value_of_place s.places (spot_of (exit l)) ≡ Some (leaving x)
      → IsAmongReaders (get spot_eq s.readers (spot_of (exit l))) (spot_of (point k p)) → OnOk r (IsJoinedAt b image plan s t (spot_of (point k q)) (state (state_after_return u x l.kind))) → OnOk r (AreDutiesJoined b image plan s t k p u (owed rule (resume l q) ∷ []))
  on_resume s t rule l q x (Ok _) there told h = duties_resume s t rule l q x there told h
  on_resume s t rule l q x (Err e) there told h = tt

  pub on_both : (laws : AreMakerLaws b image plan) (s m t : made.Table) (ds es : List Owed) (r : Result (Unit {0}) Refusal) → IsVisitedWithState b image plan s k p u → ((d : Owed) → Contains ds d → VisitedPointOwes b image plan k p u d.duty)
      → AreDutiesJoined b image plan s m k p u ds → OnOk r (AreDutiesJoined b image plan m t k p u es) → OnOk r (AreDutiesJoined b image plan s t k p u (ds ++ es))
  on_both laws s m t ds es (Ok _) v owes first h = duties_both laws s m t ds es v owes first h
  on_both laws s m t ds es (Err e) v owes first h = tt

  -- five parts
  pub on_five : (laws : AreMakerLaws b image plan) (s m n o q t : made.Table) (ds es fs gs hs : List Owed) (r : Result (Unit {0}) Refusal) → IsVisitedWithState b image plan s k p u
      → ((d : Owed) → Contains (ds ++ es ++ fs ++ gs ++ hs) d → VisitedPointOwes b image plan k p u d.duty) → AreDutiesJoined b image plan s m k p u ds → AreDutiesJoined b image plan m n k p u es → AreDutiesJoined b image plan n o k p u fs
      → AreDutiesJoined b image plan o q k p u gs → OnOk r (AreDutiesJoined b image plan q t k p u hs) → OnOk r (AreDutiesJoined b image plan s t k p u (ds ++ es ++ fs ++ gs ++ hs))
  on_five laws s m n o q t ds es fs gs hs r v owes one two three four five =
      let four_owe = owes_front (ds ++ es ++ fs ++ gs) hs owes in
      let three_owe = owes_front (ds ++ es ++ fs) gs four_owe in
      let two_owe = owes_front (ds ++ es) fs three_owe in
      let first = duties_both laws s m n ds es v (owes_front ds es two_owe) one two in
      let second = duties_both laws s n o (ds ++ es) fs v two_owe first three in
      let third = duties_both laws s o q (ds ++ es ++ fs) gs v three_owe second four in
      on_both laws s q t (ds ++ es ++ fs ++ gs) hs r v four_owe third five

  pub on_from : (s m t : made.Table) (ds : List Owed) (r : Result (Unit {0}) Refusal) → JoinKeepsPlaces b image plan s m → OnOk r (AreDutiesJoined b image plan m t k p u ds) → OnOk r (AreDutiesJoined b image plan s t k p u ds)
  on_from s m t ds (Ok _) keeps h = duties_from s m t ds keeps h
  on_from s m t ds (Err e) keeps h = tt

-- ---- one more reader
-- only exits are read still
pub exits_registered : {S : Type 0} (a b : IndexMap Spot (Vec Spot Global) S) (k : Key) (x : Spot) → AddsReader a b (spots.Exit k) x → OnlyExitsHaveReaders a → OnlyExitsHaveReaders b
exits_registered a b k x more exits j p q h =
    elim (more.alone (spots.Point j p) q h) [
      | inl before ↦ exits j p q before
      | inr e ↦ (let no : false ≡ true = e.0 in cc)
    ]

-- readers are known still
pub readers_registered : {V S R : Type 0} (places : IndexMap Spot (Marked V) S) (a b : IndexMap Spot (Vec Spot Global) R) (z x : Spot) → AddsReader a b z x → IsSome (value_of_place places x)
    → ((y : Spot) → AreKnownPlaces places (IsAmongReaders (get spot_eq a y))) → (y : Spot) → AreKnownPlaces places (IsAmongReaders (get spot_eq b y))
readers_registered {V} places a b z x more known before y q h =
    elim (more.alone y q h) [
      | inl i ↦ before y q i
      | inr e ↦ subst (λ (k : Spot). IsSome (value_of_place places k)) (sym e.1) known
    ]

-- a marked place is known
known_marked : {V : Type 0} (o : Option (Marked V)) → is_queued (option_map (λ m. m.mark) o) ≡ true → IsSome (option_map (λ m. m.value) o)
known_marked None e = cc
known_marked (Some m) e = refl

some_known : {V : Type 0} (o : Option V) (v : V) → o ≡ Some v → IsSome o
some_known {V} o v e = subst (λ (x : Option V). IsSome x) (sym e) refl

-- the visited point is known
pub visited_known : (b : Limits) (image : ImageData) (plan : PlanData) (t : made.Table) (k : Key) (p : ℕ) (u : State) → IsVisitedWithState b image plan t k p u → IsSome (value_of_place t.places (spot_of (point k p)))
unfolding view_of_table
visited_known b image plan t k p u v = by (is_queued (mark_of_place t.places (spot_of (point k p)))) refl where
  by : (e : Bool) → is_queued (mark_of_place t.places (spot_of (point k p))) ≡ e → IsSome (value_of_place t.places (spot_of (point k p)))
  by true e = known_marked (get spot_eq t.places (spot_of (point k p))) e
  by false e = some_known (value_of_place t.places (spot_of (point k p))) (state u) (v.at e)

-- the same places, values and marks; an exit may have more readers
pub registered_fine : (b : Limits) (image : ImageData) (plan : PlanData) (laws : AreMakerLaws b image plan) (s t : made.Table) → t.places.entries ≡ s.places.entries → t.near ≡ s.near → all_work t.work ≡ all_work s.work
    → t.points.items ≡ s.points.items → t.frames.items ≡ s.frames.items → t.covered ≡ s.covered → ((z q : Spot) → IsAmongReaders (get spot_eq s.readers z) q → IsAmongReaders (get spot_eq t.readers z) q) → OnlyExitsHaveReaders t.readers
    → ((y : Spot) → AreKnownPlaces s.places (IsAmongReaders (get spot_eq t.readers y))) → TableInvariantHolds b image plan s → TableInvariantHolds b image plan t × JoinKeepsPlaces b image plan s t
unfolding view_of_table
registered_fine b image plan laws s t places near work points frames covered readers exits told fine =
    let same : (q : Spot) → value_of_place t.places q ≡ value_of_place s.places q = λ q. same_value s.places t.places places q in
    let marked : (q : Spot) → mark_of_place t.places q ≡ mark_of_place s.places q = λ q. same_mark s.places t.places places q in (
      record {
        table = table_marked b image plan laws (view_of_table s) (view_of_table t) (λ q. same (spot_of q)) (λ z q h. readers (spot_of z) (spot_of q) h) fine.table
            (λ q h. sym (ap is_idle (marked (spot_of q))) ∙ h) (subst (λ (a : Assignment). Derived b image plan a) (λ i q. sym (same (spot_of q)) i) (fine.table).derived);
        listed = record {
          listed = λ q at.
              let f = (fine.listed).listed q (sym (marked q) ∙ at) in
              (f.0, subst (λ (w : List ℕ). Contains w f.0) (sym work) f.1, same_number s.places t.places places f.0 q f.2);
          known = λ n c.
              let f = (fine.listed).known n (subst (λ (w : List ℕ). Contains w n) work c) in
              (f.0, same_number s.places t.places places n f.0 f.1);
        };
        counted = counted_again s.places t.places s.points.items t.points.items s.frames.items t.frames.items (λ q. same (spot_of q)) points frames fine.counted;
        covered = covered_again b plan (view_of_table s).cells (view_of_table t).cells (λ q. same (spot_of q)) t.covered (subst (AreCachedEntriesCovered b plan (view_of_table s).cells) (sym covered) fine.covered);
        exits = exits;
        readers = λ y q h. subst (λ (o : Option Known). IsSome o) (sym (same q)) (told y q h);
        plain = λ q at. fine.plain q (sym (marked q) ∙ at);
      },
      record {
        each = λ x free. (marked x, same x);
        readers = λ z x h free. readers z x h;
        read = λ z x h free. same z;
        settled = λ k p u d free pu pd h. settled_again b image plan laws (view_of_table s) (view_of_table t) (λ q. same (spot_of q)) (λ z q i. readers (spot_of z) (spot_of q) i) k p u d h;
        rises = inr (same_level s t same points frames, work);
        near = near;
        numbers = λ n q h. same_number s.places t.places places n q h;
      },
    )

-- ---- a place that was found
-- a flow stays one
pub asks_again : (b : Limits) (image : ImageData) (plan : PlanData) (s m : made.Table) (y : Spot) (v : Known) → m.places.entries ≡ s.places.entries → AsksFor b image plan (view_of_table s).cells (place_of_spot y) v
    → AsksFor b image plan (view_of_table m).cells (place_of_spot y) v
unfolding view_of_table
asks_again b image plan s m y v places asks = subst (λ (a : Assignment). AsksFor b image plan a (place_of_spot y) v) (λ i q. sym (same_value s.places m.places places (spot_of q)) i) asks

-- nothing at all changed
pub all_left : (g : Ground) (s : made.Table) → TableInvariantHoldsForInputs g s → JoinsNothing g s s
all_left g s fine = record { fine = fine; keeps = keeps_all g.bounds.now g.image.now g.plan.now s; entries = refl; rest = refl }

-- the visited place is the same
pub near_left : (g : Ground) (s t : made.Table) (x : Spot) → JoinsNothing g s t → PlaceHasNumber s.places s.near x → PlaceHasNumber t.places t.near x
near_left g s t x left at = subst (λ (n : ℕ). PlaceHasNumber t.places n x) (sym (left.keeps).near) ((left.keeps).numbers s.near x at)

-- a join in the same places and values
raised_again : (b : Limits) (s m t : made.Table) (y : Spot) (v : Known) → m.places.entries ≡ s.places.entries → m ≡ record s { places = m.places } → RaisesOnlyPlace b m t y v → RaisesOnlyPlace b s t y v
raised_again b s m t y v places rest more =
    let rose = subst (λ (x : made.Table). RaisesOnlyPlace b x t y v) rest more in
    let same : (q : Spot) → value_of_place m.places q ≡ value_of_place s.places q = λ q. same_value s.places m.places places q in
    record {
      known = rose.known;
      raises = ap (λ (o : Option Known). joined_at_place b o v) (sym (same y)) ∙ rose.raises;
      new = λ w at covers. rose.new w (same y ∙ at) covers;
      puts = record {
        values = λ q. (rose.puts).values q ∙ ap (λ (o : Option Known). if spot_eq y q then Some rose.known else o) (same q);
        marks = λ q. (rose.puts).marks q ∙ ap (λ (o : Option Mark). if spot_eq y q then Some Queued else o) (same_mark s.places m.places places q);
        numbers = λ n q h. (rose.puts).numbers n q (same_number s.places m.places places n q h);
      };
      listed = rose.listed;
      near = rose.near;
      readers = rose.readers;
      covered = rose.covered;
      points = rose.points ∙ ap (λ (o : Option Known). points_after_recording (is_some o) s.points.items y) (same y);
      frames = rose.frames ∙ ap (λ (o : Option Known). frames_after_recording (is_some o) s.frames.items y) (same y);
      few = rose.few;
    }

pub raises_again : (g : Ground) (s m t : made.Table) (y : Spot) (v : Known) (r : Result Bool Refusal) → JoinsNothing g s m → JoinsWithoutRequeuing g m t y v r → JoinsWithoutRequeuing g s t y v r
raises_again g s m t y v (Ok true) left h = raised_again g.bounds.now s m t y v left.entries left.rest h
raises_again g s m t y v (Ok false) left h = record {
  fine = h.fine;
  covers = h.covers;
  keeps = Keeps-trans g.bounds.now g.image.now g.plan.now s m t left.keeps h.keeps;
}
raises_again g s m t y v (Err e) left h = h
