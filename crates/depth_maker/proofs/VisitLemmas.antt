-- A visit, over plain tables.
use Rattle.std.proofs.Common.{◌≡◌, ℕ, Bool, true, false, ◌⊎◌, inl, inr, List, [], ◌∷◌, Option, Some, None, IsSome, refl, sym, ap, subst, ◌∙◌, arith, length, Contains}
use Rattle.std.specs.Prelude.{if◌then◌else◌, slice_get}
use Rattle.std.specs.Map.{lookup}
use Rattle.indexmap.specs.IndexMap.{IndexMap, get}
use Rattle.std.proofs.lemmas.Option.{same_Some}
use Rattle.elf_image.specs.Images.{ImageData}
use Rattle.tcd_plan.specs.PlanData.{PlanData}
use Rattle.value_domain.specs.declared.states.State.{State}
use Rattle.value_domain.specs.Limits.{Limits}
use Rattle.depth_cert.specs.declared.keys.Key.{Key}
use Rattle.cfg_recover.specs.Entries.{start_key, start_state}
use Rattle.cfg_recover.specs.LocalFaults.{IsFaultless}
use Rattle.cfg_recover.specs.Assignments.{Assignment, Place, point, exit, is_same_place, Derived, begins, Closed, start_place, ArePointsFaultless}
use Rattle.depth_cert.specs.Known.{IsKnownState, Known, state, leaving}
use Rattle.depth_maker.specs.Covered.{AreLastCallsCovered, AreCachedEntriesCovered}
use Rattle.depth_maker.specs.InterruptHandlers.{AreContextsCovered}
use Rattle.depth_maker.specs.MakerLaws.{AreMakerLaws}
use Rattle.depth_maker.proofs.TableLaws.{derived_well_formed, table_closed, table_marked, settled_again}
use Rattle.depth_maker.proofs.PlaceKinds.{IsOfKind, derived_kinds}
use Rattle.depth_maker.proofs.CoveredLaws.{covered_again}
use Rattle.depth_maker.proofs.LevelSteps.{rises_then, same_level}
use Rattle.depth_maker.proofs.PartLemmas.{keeps_all}
use Rattle.depth_maker.specs.TableLevels.{LevelRisesOrStays}
use Rattle.frame_places.specs.declared.places.Spot.{Spot}
use Rattle.frame_places.specs.declared.places.Spot.TheVariants.{Point, Exit}
use Rattle.depth_cert.specs.declared.points.Exit as exits
use Rattle.frame_places.specs.declared.places.Mark.{Mark}
use Rattle.frame_places.specs.declared.places.Marked.{Marked}
use Rattle.frame_places.specs.Numbers.{PlaceHasNumber}
use Rattle.std.specs.Option.{option_map}
use Rattle.frame_places.specs.declared.places.Mark.TheVariants.{Idle, Plain, Queued, Open}
use Rattle.std.specs.declared.vec.Vec.{Vec}
use Rattle.std.specs.declared.alloc.Global.{Global}
use Rattle.depth_maker.specs.EnteredFrames.{PlaceEntersNoFrame}
use Rattle.depth_maker.specs.declared.table.Table as made
use Rattle.frame_places.specs.Spots.{spot_eq}
use Rattle.depth_maker.specs.SpotsAsPlaces.{spot_of, place_of_spot}
use Rattle.depth_maker.proofs.SpotLemmas.{back, forth, agrees}
use Rattle.frame_places.proofs.SpotLemmas.{equal_spots_are_same, spot_refl}
use Rattle.frame_places.specs.Marks.{mark_without_work, is_idle, is_queued, mark_at_visit_end, IsAmongReaders, mark_of_place, value_of_place, AreQueuedPlacesListed, AreKnownPlaces, MarksPlaceAs}
use Rattle.depth_maker.specs.TableInvariant.{OnlyExitsHaveReaders, TableInvariantHolds}
use Rattle.depth_maker.specs.TableView.{view_of_table}
use Rattle.depth_maker.specs.Visits.{IsVisitedWithState, IsVisitOpenAt, IsNoVisitOpen, VisitJoinsDuties}
use Rattle.depth_maker.specs.VisitDuties.{AllDutiesSettled}
use Rattle.depth_maker.specs.AssignmentCounts.{ListsTablePlaces}
use Rattle.frame_places.proofs.MarkLemmas.{sides}
use Rattle.frame_places.proofs.NearbyLemmas.{had_at, queued_mark}
use Rattle.frame_places.specs.Work.{PopsPlace, all_work}
use Rattle.frame_places.proofs.WorkLemmas.{takes_left, takes_only}
use Rattle.depth_maker.proofs.CountedLemmas.{counted_again, counted_start}

-- ---- one place gets a mark
module _ (b : Limits) (image : ImageData) (plan : PlanData) (laws : AreMakerLaws b image plan) (s t : made.Table) (x : Spot) (w : Mark) (marks_as : MarksPlaceAs s.places t.places x w) (readers : t.readers ≡ s.readers)
    (points : t.points.items ≡ s.points.items) (frames : t.frames.items ≡ s.frames.items) (covered : t.covered ≡ s.covered) where
  the_cells : (q : Spot) → value_of_place t.places q ≡ value_of_place s.places q
  the_cells q = marks_as.values q

  the_derived : Derived b image plan (view_of_table s).cells → Derived b image plan (view_of_table t).cells
  unfolding view_of_table
  the_derived d = subst (λ (a : Assignment). Derived b image plan a) (λ i q. sym (the_cells (spot_of q)) i) d

  the_readers : (z q : Spot) → IsAmongReaders (get spot_eq s.readers z) q → IsAmongReaders (get spot_eq t.readers z) q
  the_readers z q h = subst (λ m. IsAmongReaders (get spot_eq m z) q) (sym readers) h

  the_counts : ListsTablePlaces s.places s.points.items s.frames.items → ListsTablePlaces t.places t.points.items t.frames.items
  the_counts c = counted_again s.places t.places s.points.items t.points.items s.frames.items t.frames.items (λ q. the_cells (spot_of q)) points frames c

  the_covered : AreCachedEntriesCovered b plan (view_of_table s).cells s.covered → AreCachedEntriesCovered b plan (view_of_table t).cells t.covered
  unfolding view_of_table
  the_covered h = covered_again b plan (view_of_table s).cells (view_of_table t).cells (λ q. the_cells (spot_of q)) t.covered (subst (AreCachedEntriesCovered b plan (view_of_table s).cells) (sym covered) h)

  the_exits : OnlyExitsHaveReaders s.readers → OnlyExitsHaveReaders t.readers
  the_exits h k p q reads = h k p q (subst (λ m. IsAmongReaders (get spot_eq m (Point k p)) q) readers reads)

  the_known : ((z : Spot) → AreKnownPlaces s.places (IsAmongReaders (get spot_eq s.readers z))) → (z : Spot) → AreKnownPlaces t.places (IsAmongReaders (get spot_eq t.readers z))
  the_known h z q reads = subst (λ (o : Option Known). IsSome o) (sym (the_cells q)) (h z q (subst (λ m. IsAmongReaders (get spot_eq m z) q) readers reads))

  side : (q : Spot) → ((spot_eq x q ≡ true) × (mark_of_place t.places q ≡ Some w)) ⊎ ((spot_eq x q ≡ false) × (mark_of_place t.places q ≡ mark_of_place s.places q))
  side q = sides (spot_eq x q) (Some w) (mark_of_place s.places q) (mark_of_place t.places q) (marks_as.marks q)

  -- a place taken off the list
  pub opened : w ≡ Open → TableInvariantHolds b image plan s → IsNoVisitOpen s → PopsPlace s.work t.work t.near → PlaceHasNumber s.places t.near x → TableInvariantHolds b image plan t × IsVisitOpenAt t x
  unfolding view_of_table
  opened open_ fine none takes stands =
      let here : (q : Spot) → ((spot_eq x q ≡ true) × (mark_of_place t.places q ≡ Some Open)) ⊎ ((spot_eq x q ≡ false) × (mark_of_place t.places q ≡ mark_of_place s.places q)) =
      λ q. subst (λ (m : Mark). ((spot_eq x q ≡ true) × (mark_of_place t.places q ≡ Some m)) ⊎ ((spot_eq x q ≡ false) × (mark_of_place t.places q ≡ mark_of_place s.places q))) open_ (side q) in
      let idle : (q : Place) → is_idle (mark_of_place t.places (spot_of q)) ≡ true → is_idle (mark_of_place s.places (spot_of q)) ≡ true =
      λ q h. elim (here (spot_of q)) [
        | inl l ↦ (let no : true ≡ false = sym h ∙ ap is_idle l.1 in cc)
        | inr r ↦ sym (ap is_idle r.1) ∙ h
      ] in (
        record {
          table = table_marked b image plan laws (view_of_table s) (view_of_table t) (λ q. the_cells (spot_of q)) (λ z q h. the_readers (spot_of z) (spot_of q) h) fine.table idle (the_derived (fine.table).derived);
          listed = record {
            listed = λ q at.
                elim (here q) [
                  | inl l ↦ (let no : Some Queued ≡ Some Open = sym at ∙ l.1 in cc)
                  | inr r ↦ (let f = (fine.listed).listed q (sym r.1 ∙ at) in
                      elim (takes_only s.work t.work t.near f.0 takes f.1) [
                        | inl has ↦ (f.0, has, marks_as.numbers f.0 q f.2)
                        | inr e ↦
                            (let one : x ≡ q = same_Some x q (sym stands ∙ subst (λ (n : ℕ). PlaceHasNumber s.places n q) (sym e) f.2) in
                            let no : true ≡ false = sym (subst (λ (k : Spot). spot_eq x k ≡ true) one (spot_refl x)) ∙ r.0 in cc)
                      ])
                ];
            known = λ n c.
                (let f = (fine.listed).known n (takes_left s.work t.work t.near n takes c) in (f.0, marks_as.numbers n f.0 f.1));
          };
          counted = the_counts fine.counted;
          covered = the_covered fine.covered;
          exits = the_exits fine.exits;
          readers = the_known fine.readers;
          plain = λ q at.
              elim (here q) [
                | inl l ↦ (let no : Some Open ≡ Some Plain = sym l.1 ∙ at in cc)
                | inr r ↦ fine.plain q (sym r.1 ∙ at)
              ];
        },
        record {
          at = marks_as.marks x ∙ ap (λ e. if e then Some w else mark_of_place s.places x) (spot_refl x) ∙ ap (λ (m : Mark). Some m) open_;
          only = λ q at.
              elim (here q) [
                | inl l ↦ sym (equal_spots_are_same x q l.0)
                | inr r ↦ absurd (none q (sym r.1 ∙ at))
              ];
          stands = marks_as.numbers t.near x stands;
        },
      )

  -- the same marks
  pub again_fine : ((q : Spot) → mark_of_place t.places q ≡ mark_of_place s.places q) → all_work t.work ≡ all_work s.work → TableInvariantHolds b image plan s → TableInvariantHolds b image plan t
  unfolding view_of_table
  again_fine marked work fine =
      record {
        table = table_marked b image plan laws (view_of_table s) (view_of_table t) (λ q. the_cells (spot_of q)) (λ z q h. the_readers (spot_of z) (spot_of q) h) fine.table
            (λ q h. sym (ap is_idle (marked (spot_of q))) ∙ h) (the_derived (fine.table).derived);
        listed = the_list marked work fine.listed;
        counted = the_counts fine.counted;
        covered = the_covered fine.covered;
        exits = the_exits fine.exits;
        readers = the_known fine.readers;
        plain = λ q at. fine.plain q (sym (marked q) ∙ at);
      }
    where
      the_list : ((q : Spot) → mark_of_place t.places q ≡ mark_of_place s.places q) → all_work t.work ≡ all_work s.work → AreQueuedPlacesListed s.places (all_work s.work) → AreQueuedPlacesListed t.places (all_work t.work)
      the_list marked work h = record {
        listed = λ q at. (let f = h.listed q (sym (marked q) ∙ at) in (f.0, subst (λ (l : List ℕ). Contains l f.0) (sym work) f.1, marks_as.numbers f.0 q f.2));
        known = λ n c. (let f = h.known n (subst (λ (l : List ℕ). Contains l n) work c) in (f.0, marks_as.numbers n f.0 f.1));
      }

  -- the end of a visit: the point is idle now, and all that it owes is settled
  pub finished : is_idle (Some w) ≡ true → (Some w ≡ Some Plain → PlaceEntersNoFrame image plan x) → TableInvariantHolds b image plan s → IsVisitOpenAt s x → all_work t.work ≡ all_work s.work
      → ((k : Key) (p : ℕ) (u : State) → place_of_spot x ≡ point k p → (view_of_table s).cells (point k p) ≡ Some (state u) → IsFaultless b image plan k p u × AllDutiesSettled b image plan s k p u) → TableInvariantHolds b image plan t × IsNoVisitOpen t
  unfolding view_of_table
  finished idles told fine opening work paid =
      let idle : (q : Place) → is_idle (mark_of_place t.places (spot_of q)) ≡ true → (is_idle (mark_of_place s.places (spot_of q)) ≡ true) ⊎ (place_of_spot x ≡ q) =
      λ q h. elim (side (spot_of q)) [
        | inl l ↦ inr (ap place_of_spot (equal_spots_are_same x (spot_of q) l.0) ∙ back q)
        | inr r ↦ inl (sym (ap is_idle r.1) ∙ h)
      ] in (
        record {
          table = record {
            derived = the_derived (fine.table).derived;
            own = λ k p u at now.
                elim (idle (point k p) now) [
                  | inl before ↦ (fine.table).own k p u (sym (the_cells (spot_of (point k p))) ∙ at) before
                  | inr e ↦ (paid k p u e (sym (the_cells (spot_of (point k p))) ∙ at)).0
                ];
            settled = λ k p u shape n d at now code c.
                settled_again b image plan laws (view_of_table s) (view_of_table t) (λ q. the_cells (spot_of q)) (λ z q h. the_readers (spot_of z) (spot_of q) h) k p u d.duty
                (elim (idle (point k p) now) [
                  | inl before ↦ (fine.table).settled k p u shape n d (sym (the_cells (spot_of (point k p))) ∙ at) before code c
                  | inr e ↦ (paid k p u e (sym (the_cells (spot_of (point k p))) ∙ at)).1.each shape n d code c
                ]);
          };
          listed = record {
            listed = λ q at.
                elim (side q) [
                  | inl l ↦ (let no : false ≡ true = ap is_idle (sym at ∙ l.1) ∙ idles in cc)
                  | inr r ↦ (let f = (fine.listed).listed q (sym r.1 ∙ at) in (f.0, subst (λ (l : List ℕ). Contains l f.0) (sym work) f.1, marks_as.numbers f.0 q f.2))
                ];
            known = λ n c. (let f = (fine.listed).known n (subst (λ (l : List ℕ). Contains l n) work c) in (f.0, marks_as.numbers n f.0 f.1));
          };
          counted = the_counts fine.counted;
          covered = the_covered fine.covered;
          exits = the_exits fine.exits;
          readers = the_known fine.readers;
          plain = λ q at.
              elim (side q) [
                | inl l ↦ subst (λ (k : Spot). PlaceEntersNoFrame image plan k) (equal_spots_are_same x q l.0) (told (sym l.1 ∙ at))
                | inr r ↦ fine.plain q (sym r.1 ∙ at)
              ];
        },
        (λ q at. elim (side q) [
          | inl l ↦ (let no : false ≡ true = ap is_idle (sym at ∙ l.1) ∙ idles in cc)
          | inr r ↦ (let no : true ≡ false = sym (subst (λ (k : Spot). spot_eq x k ≡ true) (sym (opening.only q (sym r.1 ∙ at))) (spot_refl x)) ∙ r.0 in cc)
        ]),
      )

-- ---- what was joined
-- the point has its state still, and is the visited one
pub duties_open : (b : Limits) (image : ImageData) (plan : PlanData) (s t : made.Table) (x : Spot) → IsVisitOpenAt s x → VisitJoinsDuties b image plan s t x → mark_of_place t.places x ≡ Some Open → IsVisitOpenAt t x
duties_open b image plan s t x opening paid at = record {
  at = at;
  only = λ q here. opening.only q (sym ((paid.keeps).each q (ap is_queued here)).0 ∙ here);
  stands = subst (λ (n : ℕ). PlaceHasNumber t.places n x) (sym (paid.keeps).near) ((paid.keeps).numbers s.near x opening.stands);
}

pub duties_closed : (b : Limits) (image : ImageData) (plan : PlanData) (s t : made.Table) (x : Spot) → IsVisitOpenAt s x → VisitJoinsDuties b image plan s t x → (mark_of_place t.places x ≡ Some Open → ⊥) → IsNoVisitOpen t
duties_closed b image plan s t x opening paid not q at =
    not (subst (λ (k : Spot). mark_of_place t.places k ≡ Some Open) (opening.only q (sym ((paid.keeps).each q (ap is_queued at)).0 ∙ at)) at)

pub duties_settled : (b : Limits) (image : ImageData) (plan : PlanData) (s t : made.Table) (x : Spot) → VisitJoinsDuties b image plan s t x → mark_of_place t.places x ≡ Some Open
    → (k : Key) (p : ℕ) (u : State) → place_of_spot x ≡ point k p → (view_of_table t).cells (point k p) ≡ Some (state u) → IsFaultless b image plan k p u × AllDutiesSettled b image plan t k p u
unfolding view_of_table
duties_settled b image plan s t x paid opening k p u e at =
    let is : spot_of (point k p) ≡ x = sym (ap spot_of e) ∙ forth x in
    let free : is_queued (mark_of_place t.places x) ≡ false = ap is_queued opening in
    let before : value_of_place s.places (spot_of (point k p)) ≡ Some (state u) =
    ap (value_of_place s.places) is ∙ sym ((paid.keeps).each x free).1 ∙ sym (ap (value_of_place t.places) is) ∙ at in
    (paid.faultless k p u e before, paid.settled k p u e before free)

-- ---- the start, and the end
pub begun_table : (b : Limits) (image : ImageData) (plan : PlanData) (t : made.Table) (x : Spot) (v : Known) → x ≡ spot_of (start_place image plan) → v ≡ state (start_state plan)
    → ((q : Spot) → value_of_place t.places q ≡ (if spot_eq x q then Some v else None)) → ((q : Spot) → mark_of_place t.places q ≡ (if spot_eq x q then Some Queued else None)) → AreQueuedPlacesListed t.places (all_work t.work)
    → t.points.items ≡ x ∷ [] → t.frames.items ≡ start_key image plan ∷ [] → (t.covered).interrupts ≡ record { last = None; before = None } → (t.covered).calls.items ≡ [] → ((z : Spot) → get spot_eq t.readers z ≡ None) → TableInvariantHolds b image plan t × IsNoVisitOpen t
unfolding view_of_table
begun_table b image plan t x v place known cells marks listed points frames none uncalled unread =
    let side : (q : Spot) → ((spot_eq x q ≡ true) × (mark_of_place t.places q ≡ Some Queued)) ⊎ ((spot_eq x q ≡ false) × (mark_of_place t.places q ≡ None)) =
    λ q. sides (spot_eq x q) (Some Queued) None (mark_of_place t.places q) (marks q) in
    let never : (q : Spot) → is_idle (mark_of_place t.places q) ≡ true → ⊥ =
    λ q h. elim (side q) [
      | inl l ↦ (let no : true ≡ false = sym h ∙ ap is_idle l.1 in cc)
      | inr r ↦ (let no : true ≡ false = sym h ∙ ap is_idle r.1 in cc)
    ] in
    let test : (q : Place) → spot_eq x (spot_of q) ≡ is_same_place q (start_place image plan) = λ q. ap (λ (z : Spot). spot_eq z (spot_of q)) place ∙ agrees q (start_place image plan) in
    let unread_by : (z q : Spot) → IsAmongReaders (get spot_eq t.readers z) q → ⊥ = λ z q h. subst (λ (o : Option (Vec Spot Global)). IsAmongReaders o q) (unread z) h in (
      record {
        table = record {
          derived = begins (view_of_table t).cells
              (λ q. cells (spot_of q) ∙ ap (λ e. if e then Some v else None) (test q) ∙ ap (λ (w : Known). if is_same_place q (start_place image plan) then Some w else None) known);
          own = λ k p u at h. absurd (never (spot_of (point k p)) h);
          settled = λ k p u shape n d at h code c. absurd (never (spot_of (point k p)) h);
        };
        listed = listed;
        counted = counted_start t.places t.points.items t.frames.items (start_key image plan) v
            (λ q. cells (spot_of q) ∙ ap (λ e. if e then Some v else None) (test q)) (points ∙ ap (λ (z : Spot). z ∷ []) place) frames;
        covered = (
          subst (AreContextsCovered b plan (view_of_table t).cells) (sym none) (tt, tt),
          subst (AreLastCallsCovered b (view_of_table t).cells) (sym uncalled) (λ h c. absurd (omega (arith, c.1))),
        );
        exits = λ k p q h. unread_by (Point k p) q h;
        readers = λ z q h. absurd (unread_by z q h);
        plain = λ q at.
            elim (side q) [
              | inl l ↦ (let no : Some Queued ≡ Some Plain = sym l.1 ∙ at in cc)
              | inr r ↦ (let no : None ≡ Some Plain = sym r.1 ∙ at in cc)
            ];
      },
      (λ q at. elim (side q) [
        | inl l ↦ (let no : Some Open ≡ Some Queued = sym at ∙ l.1 in cc)
        | inr r ↦ (let no : Some Open ≡ None = sym at ∙ r.1 in cc)
      ]),
    )

-- without work
all_idle : (o : Option Mark) → IsSome o → (o ≡ Some Queued → ⊥) → (o ≡ Some Open → ⊥) → is_idle o ≡ true
all_idle None is a b = cc
all_idle (Some Queued) is a b = absurd (a refl)
all_idle (Some Open) is a b = absurd (b refl)
all_idle _ is a b = refl

-- a known place has a mark
marked_known : (o : Option (Marked Known)) (v : Known) → option_map (λ m. m.value) o ≡ Some v → IsSome (option_map (λ m. m.mark) o)
marked_known None v e = (let no : None ≡ Some v = e in cc)
marked_known (Some m) v e = refl

pub closed_table : (b : Limits) (image : ImageData) (plan : PlanData) (laws : AreMakerLaws b image plan) (t : made.Table) → TableInvariantHolds b image plan t → IsNoVisitOpen t → ((q : Spot) → mark_of_place t.places q ≡ Some Queued → ⊥)
    → Derived b image plan (view_of_table t).cells × Closed b image plan (view_of_table t).cells × ArePointsFaultless b image plan (view_of_table t).cells
unfolding view_of_table
closed_table b image plan laws t fine none left =
    let h = table_closed b image plan laws (view_of_table t) fine.table
    (λ k p u at. all_idle (mark_of_place t.places (spot_of (point k p))) (marked_known (get spot_eq t.places (spot_of (point k p))) (state u) at) (left (spot_of (point k p))) (none (spot_of (point k p)))) in
    ((fine.table).derived, h.0, h.1)

-- ---- the values of places
-- a state at a point, an exit at an exit
pub point_state : (b : Limits) (image : ImageData) (plan : PlanData) (t : made.Table) (k : Key) (p : ℕ) (w : Known) → TableInvariantHolds b image plan t → value_of_place t.places (Point k p) ≡ Some w → (u : State) × (w ≡ state u)
unfolding view_of_table
point_state b image plan t k p w fine at = of_kind w (derived_kinds b image plan (view_of_table t).cells (fine.table).derived (point k p) w at) where
  of_kind : (v : Known) → IsOfKind (point k p) v → (u : State) × (v ≡ state u)
  of_kind (state s) h = (s, refl)
  of_kind (leaving x) h = absurd h

pub exit_known : (b : Limits) (image : ImageData) (plan : PlanData) (t : made.Table) (k : Key) (w : Known) → TableInvariantHolds b image plan t → value_of_place t.places (Exit k) ≡ Some w → (x : exits.Exit) × (w ≡ leaving x)
unfolding view_of_table
exit_known b image plan t k w fine at = of_kind w (derived_kinds b image plan (view_of_table t).cells (fine.table).derived (exit k) w at) where
  of_kind : (v : Known) → IsOfKind (exit k) v → (x : exits.Exit) × (v ≡ leaving x)
  of_kind (state s) h = absurd h
  of_kind (leaving x) h = (x, refl)

-- the value at the visited point is a state
pub own_state : (b : Limits) (image : ImageData) (plan : PlanData) (t : made.Table) (k : Key) (p : ℕ) (y : Spot) (old : Marked Known) → TableInvariantHolds b image plan t → slice_get t.places.entries t.near ≡ Some (y, old)
    → get spot_eq t.places y ≡ Some old → PlaceHasNumber t.places t.near (Point k p) → (u : State) × (old.value ≡ state u) × (value_of_place t.places (Point k p) ≡ Some (state u))
own_state b image plan t k p y old fine entry value stands =
    let at : value_of_place t.places (Point k p) ≡ Some old.value = ap (option_map (λ (m : Marked Known). m.value)) (had_at t.places t.near (Point k p) y old entry value stands) in
    let e = point_state b image plan t k p old.value fine at in
    (e.0, e.1, at ∙ ap (λ (w : Known). Some w) e.1)

-- the state of the visited point
pub visited_at : (b : Limits) (image : ImageData) (plan : PlanData) (laws : AreMakerLaws b image plan) (t : made.Table) (k : Key) (p : ℕ) (u : State) → TableInvariantHolds b image plan t → PlaceHasNumber t.places t.near (Point k p)
    → value_of_place t.places (Point k p) ≡ Some (state u) → IsVisitedWithState b image plan t k p u
unfolding view_of_table
visited_at b image plan laws t k p u fine stands at = record { fine = fine; well_formed = derived_well_formed b image plan laws (view_of_table t).cells (fine.table).derived (point k p) (state u) at; at = λ free. at; stands = stands }

-- the state that was read there
pub state_read : (b : Limits) (image : ImageData) (plan : PlanData) (laws : AreMakerLaws b image plan) (t : made.Table) (k : Key) (p : ℕ) (y : Spot) (old : Marked Known) (read u : State) → TableInvariantHolds b image plan t
    → slice_get t.places.entries t.near ≡ Some (y, old) → get spot_eq t.places y ≡ Some old → PlaceHasNumber t.places t.near (Point k p) → IsKnownState old.value read → u ≡ read
    → IsVisitedWithState b image plan t k p u × (value_of_place t.places (Point k p) ≡ Some (state u))
state_read b image plan laws t k p y old read u fine entry value stands known same =
    let e = own_state b image plan t k p y old fine entry value stands in
    let is : read ≡ e.0 = subst (λ (w : Known). IsKnownState w read) e.1 known in
    let at : value_of_place t.places (Point k p) ≡ Some (state u) = e.2 ∙ ap (λ (w : State). Some (state w)) (sym (same ∙ is)) in
    (visited_at b image plan laws t k p u fine stands at, at)

-- an exit owes nothing
pub duties_exit : (b : Limits) (image : ImageData) (plan : PlanData) (s : made.Table) (k : Key) → TableInvariantHolds b image plan s → VisitJoinsDuties b image plan s s (Exit k)
duties_exit b image plan s k fine = record {
  fine = fine;
  keeps = keeps_all b image plan s;
  faultless = λ l p u e at. absurd (let no : exit k ≡ point l p = e in cc);
  settled = λ l p u e at free. absurd (let no : exit k ≡ point l p = e in cc);
}

-- no work is left: the list is as it was
pub same_fine : (b : Limits) (image : ImageData) (plan : PlanData) (s t : made.Table) → t ≡ (record s { work = t.work }) → all_work t.work ≡ all_work s.work → TableInvariantHolds b image plan s → TableInvariantHolds b image plan t
unfolding view_of_table
same_fine b image plan s t is work fine = subst (TableInvariantHolds b image plan) (sym is) (record {
  table = fine.table;
  listed = subst (λ (l : List ℕ). AreQueuedPlacesListed s.places l) (sym work) fine.listed;
  counted = fine.counted;
  covered = fine.covered;
  exits = fine.exits;
  readers = fine.readers;
  plain = fine.plain;
})

-- a place without work was taken off the list
pub passed_over : (b : Limits) (image : ImageData) (plan : PlanData) (s t : made.Table) (x : Spot) (number : ℕ) → t ≡ (record s { work = t.work }) → PopsPlace s.work t.work number → PlaceHasNumber s.places number x
    → is_queued (mark_of_place s.places x) ≡ false → TableInvariantHolds b image plan s → TableInvariantHolds b image plan t
unfolding view_of_table
passed_over b image plan s t x number is takes stands idle fine = subst (TableInvariantHolds b image plan) (sym is) (record {
  table = fine.table;
  listed = record {
    listed = λ q at.
        (let f = (fine.listed).listed q at in
        elim (takes_only s.work t.work number f.0 takes f.1) [
          | inl has ↦ (f.0, has, f.2)
          | inr e ↦
              (let one : x ≡ q = same_Some x q (sym stands ∙ subst (λ (n : ℕ). PlaceHasNumber s.places n q) (sym e) f.2) in
              let no : false ≡ true = sym idle ∙ ap (λ (k : Spot). is_queued (mark_of_place s.places k)) one ∙ ap is_queued at in cc)
        ]);
    known = λ n c. (fine.listed).known n (takes_left s.work t.work number n takes c);
  };
  counted = fine.counted;
  covered = fine.covered;
  exits = fine.exits;
  readers = fine.readers;
  plain = fine.plain;
})

-- ---- the end of a visit
idle_marked : (plain : Bool) → is_idle (Some (mark_without_work plain)) ≡ true
idle_marked true = refl
idle_marked false = refl

plain_marked : {P : Type 0} (plain : Bool) → (plain ≡ true → P) → Some (mark_without_work plain) ≡ Some Plain → P
plain_marked true told e = told refl
plain_marked false told e = (let no : Some Idle ≡ Some Plain = e in cc)

-- what the point owes was joined, and it is idle now, unless it has new work
pub ended : (b : Limits) (image : ImageData) (plan : PlanData) (laws : AreMakerLaws b image plan) (s m t : made.Table) (x : Spot) (plain : Bool) → (plain ≡ true → PlaceEntersNoFrame image plan x) → t.readers ≡ m.readers
    → t.points.items ≡ m.points.items → t.frames.items ≡ m.frames.items → t.covered ≡ m.covered → all_work t.work ≡ all_work m.work → MarksPlaceAs m.places t.places x (mark_at_visit_end plain (mark_of_place m.places x)) → IsVisitOpenAt s x
    → VisitJoinsDuties b image plan s m x → TableInvariantHolds b image plan t × IsNoVisitOpen t × LevelRisesOrStays s t
ended b image plan laws s m t x plain told readers points frames covered work marks opening paid = by_mark (is_queued (mark_of_place m.places x)) refl where
  higher : LevelRisesOrStays s t
  higher = rises_then s m t (paid.keeps).rises (inr (same_level m t marks.values points frames, work))

  by_mark : (e : Bool) → is_queued (mark_of_place m.places x) ≡ e → TableInvariantHolds b image plan t × IsNoVisitOpen t × LevelRisesOrStays s t
  by_mark true e =
      let at : mark_of_place m.places x ≡ Some Queued = queued_mark (mark_of_place m.places x) e in
      let same : (q : Spot) → mark_of_place t.places q ≡ mark_of_place m.places q =
      λ q. elim (sides (spot_eq x q) (Some (mark_at_visit_end plain (mark_of_place m.places x))) (mark_of_place m.places q) (mark_of_place t.places q) (marks.marks q)) [
        | inl l ↦ l.1 ∙ ap (λ (o : Option Mark). Some (mark_at_visit_end plain o)) at ∙ sym at ∙ ap (mark_of_place m.places) (equal_spots_are_same x q l.0)
        | inr r ↦ r.1
      ] in (
        again_fine b image plan laws m t x (mark_at_visit_end plain (mark_of_place m.places x)) marks readers points frames covered same work paid.fine,
        (λ q here. duties_closed b image plan s m x opening paid (λ open_. let no : Some Queued ≡ Some Open = sym at ∙ open_ in cc) q (sym (same q) ∙ here)),
        higher,
      )
  by_mark false e =
      let at : mark_of_place m.places x ≡ Some Open = ((paid.keeps).each x e).0 ∙ opening.at in
      let idle_ : mark_at_visit_end plain (mark_of_place m.places x) ≡ mark_without_work plain = ap (mark_at_visit_end plain) at in
      let h =
      finished b image plan laws m t x (mark_without_work plain) (subst (λ (k : Mark). MarksPlaceAs m.places t.places x k) idle_ marks) readers points frames covered (idle_marked plain) (plain_marked plain told) paid.fine
      (duties_open b image plan s m x opening paid at) work (duties_settled b image plan s m x paid at) in
      (h.0, h.1, higher)

-- a map without entries
pub get_none : {X S : Type 0} (m : IndexMap Spot X S) (q : Spot) → m.entries ≡ [] → get spot_eq m q ≡ None
get_none m q e = ap (λ es. lookup (spot_eq q) es) e

pub none_listed : {V S : Type 0} (m : IndexMap Spot (Marked V) S) (work : List ℕ) → m.entries ≡ [] → work ≡ [] → AreQueuedPlacesListed m work
none_listed {V} m work bare empty = record {
  listed = λ q at. absurd (let no : None ≡ Some Queued = sym (ap (option_map (λ (k : Marked V). k.mark)) (get_none m q bare)) ∙ at in cc);
  known = λ n c. absurd (let z = ap (λ (l : List ℕ). length l) empty in omega (arith, c.1, z));
}
