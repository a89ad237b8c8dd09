-- A join, over plain tables.
use Rattle.std.proofs.Common.{◌≡◌, ◌<◌, ◌⊎◌, Bool, true, false, inl, inr, List, Option, Some, None, IsSome, refl, sym, ap, subst, ◌∙◌}
use Rattle.std.specs.Prelude.{if◌then◌else◌, is_some, map}
use Rattle.indexmap.specs.IndexMap.{IndexMap, get}
use Rattle.std.specs.declared.vec.Vec.{Vec}
use Rattle.std.specs.declared.alloc.Global.{Global}
use Rattle.elf_image.specs.Images.{ImageData}
use Rattle.tcd_plan.specs.PlanData.{PlanData}
use Rattle.value_domain.specs.Limits.{Limits}
use Rattle.cfg_recover.specs.Assignments.{Place, is_same_place, AssignmentCovers, AsksFor, joined_at_place, Joins}
use Rattle.depth_cert.specs.declared.keys.Key.{Key}
use Rattle.depth_cert.specs.Known.{Known, known_ccpn, joined_known}
use Rattle.cfg_recover.specs.CertRefusals.{derived}
use Rattle.depth_maker.specs.MakerLaws.{AreMakerLaws}
use Rattle.depth_maker.specs.TableView.{view_of_table}
use Rattle.depth_maker.specs.Joins.{QueuesPlaceAndReaders, JoinKeepsPlaces, IsJoinedAt, RaisesOnlyPlace}
use Rattle.depth_maker.specs.TableInvariant.{ViewInvariantHolds, TableInvariantHolds, OnlyExitsHaveReaders, AreKnownWellFormed}
use Rattle.depth_maker.proofs.TableLaws.{table_rises, settled_stays, joined_covers, derived_well_formed}
use Rattle.depth_maker.proofs.PlaceKinds.{unjoined_fault}
use Rattle.frame_places.specs.declared.places.Spot.{Spot}
use Rattle.frame_places.specs.declared.places.Mark.{Mark}
use Rattle.frame_places.specs.declared.places.Spot.TheVariants.{Point}
use Rattle.frame_places.specs.declared.places.Mark.TheVariants.{Plain, Queued}
use Rattle.frame_places.specs.declared.refusals.Refusal.TheVariants.{Fault}
use Rattle.depth_maker.specs.declared.table.Table as made
use Rattle.frame_places.specs.Spots.{spot_eq}
use Rattle.depth_maker.specs.SpotsAsPlaces.{spot_of, place_of_spot}
use Rattle.depth_maker.proofs.Below.{asks_well_formed}
use Rattle.depth_maker.proofs.CountedLemmas.{counted_after}
use Rattle.depth_maker.proofs.LevelLaws.{rank_rises}
use Rattle.depth_maker.proofs.LevelSteps.{level_rises}
use Rattle.depth_maker.specs.Covered.{AreCachedEntriesCovered}
use Rattle.depth_maker.specs.TableLevels.{level_of_place}
use Rattle.depth_maker.proofs.CoveredLaws.{covered_stay}
use Rattle.frame_places.proofs.SpotLemmas.{equal_spots_are_same}
use Rattle.depth_maker.proofs.SpotLemmas.{forth, agrees}
use Rattle.frame_places.specs.Marks.{AreQueuedPlacesListed, is_idle, is_queued, mark_of_place, value_of_place, AreKnownPlaces, ForgetsReaders, IsAmongReaders, RequeuesPlaces}
use Rattle.depth_maker.specs.AssignmentCounts.{AreWithinCertLimits, ListsTablePlaces}
use Rattle.depth_maker.specs.Answers.{RefusalNamesFault}
use Rattle.frame_places.proofs.MarkLemmas.{sides}
use Rattle.frame_places.proofs.ReaderLemmas.{still_reads, read_already}
use Rattle.frame_places.specs.Work.{all_work}

pub idle_not_queued : (o : Option Mark) → is_idle o ≡ true → is_queued o ≡ false
idle_not_queued (Some Queued) e = cc
idle_not_queued _ e = refl

-- ---- the values of a table
pub cells_well_formed : (b : Limits) (image : ImageData) (plan : PlanData) (laws : AreMakerLaws b image plan) (t : made.Table) → TableInvariantHolds b image plan t → AreKnownWellFormed b t.places
unfolding view_of_table
cells_well_formed b image plan laws t fine q v at =
    derived_well_formed b image plan laws (view_of_table t).cells (fine.table).derived (place_of_spot q) v (ap (value_of_place t.places) (forth q) ∙ at)

-- v was joined at y alone, and then the readers of y were queued
module _ (b : Limits) (image : ImageData) (plan : PlanData) (laws : AreMakerLaws b image plan) (s m t : made.Table) (y : Spot) (v : Known)
    (asks : AsksFor b image plan (view_of_table s).cells (place_of_spot y) v) (rose : RaisesOnlyPlace b s m y v) (tells : RequeuesPlaces m.places t.places (IsAmongReaders (get spot_eq s.readers y)))
    (listed : AreQueuedPlacesListed t.places (all_work t.work)) (near : t.near ≡ m.near) (readers : ForgetsReaders m.readers t.readers y) (covered : t.covered ≡ m.covered) (points : t.points.items ≡ m.points.items)
    (frames : t.frames.items ≡ m.frames.items) (fine : TableInvariantHolds b image plan s) (small : known_ccpn v < 256) where
  abbrev u : Known
  u = rose.known

  -- as after one step
  after : (q : Spot) → value_of_place t.places q ≡ (if spot_eq y q then Some u else value_of_place s.places q)
  after q = tells.values q ∙ (rose.puts).values q

  readers_stay : (z x : Spot) → IsAmongReaders (get spot_eq s.readers z) x → (IsAmongReaders (get spot_eq s.readers y) x → ⊥) → IsAmongReaders (get spot_eq t.readers z) x
  readers_stay z x h none =
      still_reads m.readers t.readers y readers z x (subst (λ r. IsAmongReaders (get spot_eq r z) x) (sym rose.readers) h) (λ i. none (subst (λ r. IsAmongReaders (get spot_eq r y) x) rose.readers i))

  read_before : (z x : Spot) → IsAmongReaders (get spot_eq t.readers z) x → IsAmongReaders (get spot_eq s.readers z) x
  read_before z x h = subst (λ r. IsAmongReaders (get spot_eq r z) x) rose.readers (read_already m.readers t.readers y readers z x h)

  marks_by : (q : Spot) → ((mark_of_place t.places q ≡ Some Queued) × ((spot_eq y q ≡ true) ⊎ IsAmongReaders (get spot_eq s.readers y) q))
      ⊎ ((mark_of_place t.places q ≡ mark_of_place s.places q) × (spot_eq y q ≡ false) × (IsAmongReaders (get spot_eq s.readers y) q → ⊥))
  marks_by q =
      elim (tells.marks q) [
        | inl l ↦ inl (l.0, inr l.1)
        | inr r ↦ elim (sides (spot_eq y q) (Some Queued) (mark_of_place s.places q) (mark_of_place m.places q) ((rose.puts).marks q)) [
          | inl l ↦ inl (r.0 ∙ l.1, inl l.0)
          | inr n ↦ inr (r.0 ∙ n.1, n.0, r.1)
        ]
      ]

  -- the map's test at a place
  test : (q : Place) → spot_eq y (spot_of q) ≡ is_same_place q (place_of_spot y)
  test q = ap (λ (z : Spot). spot_eq z (spot_of q)) (sym (forth y)) ∙ agrees q (place_of_spot y)

  the_joining : Joins b image plan (view_of_table s).cells (view_of_table t).cells (place_of_spot y)
  unfolding view_of_table
  the_joining = record {
    value = v;
    asks = asks;
    known = u;
    raises = ap (λ (z : Spot). joined_at_place b (value_of_place s.places z) v) (forth y) ∙ rose.raises;
    is = λ q. after (spot_of q) ∙ ap (λ x. if x then Some u else value_of_place s.places (spot_of q)) (test q);
  }

  the_marks : QueuesPlaceAndReaders (view_of_table s) (view_of_table t) (place_of_spot y)
  unfolding view_of_table
  the_marks = record {
    each = λ q.
        elim (marks_by (spot_of q)) [
          | inl l ↦ inl (ap is_queued l.0, ap is_idle l.0)
          | inr r ↦ inr (ap is_idle r.0, ap is_queued r.0, sym (test q) ∙ r.1, (λ h. r.2 (subst (λ (z : Spot). IsAmongReaders (get spot_eq s.readers z) (spot_of q)) (forth y) h)))
        ];
    reads = λ z x h none. readers_stay (spot_of z) (spot_of x) h (λ i. none (subst (λ (q : Spot). IsAmongReaders (get spot_eq s.readers q) (spot_of x)) (sym (forth y)) i));
  }

  not_same : (q : Spot) → spot_eq y q ≡ false → value_of_place t.places q ≡ value_of_place s.places q
  not_same q e = after q ∙ ap (λ x. if x then Some u else value_of_place s.places q) e

  known_stays : (q : Spot) → IsSome (value_of_place s.places q) → IsSome (value_of_place t.places q)
  known_stays q h =
      elim (sides (spot_eq y q) (Some u) (value_of_place s.places q) (value_of_place t.places q) (after q)) [
        | inl l ↦ subst (λ (o : Option Known). IsSome o) (sym l.1) refl
        | inr r ↦ subst (λ (o : Option Known). IsSome o) (sym r.1) h
      ]

  the_table : ViewInvariantHolds b image plan (view_of_table t)
  unfolding view_of_table
  the_table = table_rises b image plan laws (view_of_table s) (view_of_table t) (place_of_spot y) fine.table the_joining the_marks (λ x e. idle_not_queued (mark_of_place t.places (spot_of x)) e)

  read_case : (z x : Spot) → IsAmongReaders (get spot_eq s.readers z) x → (IsAmongReaders (get spot_eq s.readers y) x → ⊥) → (e : Bool) → spot_eq y z ≡ e → value_of_place t.places z ≡ value_of_place s.places z
  read_case z x h none true e = absurd (none (subst (λ (k : Spot). IsAmongReaders (get spot_eq s.readers k) x) (sym (equal_spots_are_same y z e)) h))
  read_case z x h none false e = not_same z e

  few : AreWithinCertLimits (map place_of_spot t.points.items) t.frames.items
  few = subst (λ (l : List Spot). AreWithinCertLimits (map place_of_spot l) t.frames.items) (sym points) (subst (λ (l : List Key). AreWithinCertLimits (map place_of_spot m.points.items) l) (sym frames) rose.few)

  the_counted : ListsTablePlaces t.places t.points.items t.frames.items
  unfolding view_of_table the_joining
  the_counted = counted_after b image plan s.places t.places s.points.items t.points.items s.frames.items t.frames.items y the_joining (points ∙ rose.points) (frames ∙ rose.frames) few fine.counted

  higher : level_of_place (value_of_place s.places y) < level_of_place (Some u)
  higher =
      rank_rises b image plan laws (value_of_place s.places y) v u (cells_well_formed b image plan laws s fine y)
      (asks_well_formed b image plan laws (view_of_table s).cells (place_of_spot y) v (derived_well_formed b image plan laws (view_of_table s).cells (fine.table).derived) asks) rose.raises rose.new small

  the_keeping : JoinKeepsPlaces b image plan s t
  unfolding view_of_table
  the_keeping = record {
    each = λ x free.
        elim (marks_by x) [
          | inl l ↦ (let no : true ≡ false = sym (ap is_queued l.0) ∙ free in cc)
          | inr r ↦ (r.0, not_same x r.1)
        ];
    readers = λ z x h free.
        elim (marks_by x) [
          | inl l ↦ (let no : true ≡ false = sym (ap is_queued l.0) ∙ free in cc)
          | inr r ↦ readers_stay z x h r.2
        ];
    read = λ z x h free.
        elim (marks_by x) [
          | inl l ↦ (let no : true ≡ false = sym (ap is_queued l.0) ∙ free in cc)
          | inr r ↦ read_case z x h r.2 (spot_eq y z) refl
        ];
    settled = λ k p w d free ps pd h. settled_stays b image plan laws (view_of_table s) (view_of_table t) (place_of_spot y) fine.table the_joining the_marks k p w d free ps pd h;
    rises = inl (level_rises s t y u (is_some (value_of_place s.places y)) after (points ∙ rose.points) (frames ∙ rose.frames) the_counted higher);
    near = near ∙ rose.near;
    numbers = λ n q h. tells.numbers n q ((rose.puts).numbers n q h);
  }

  the_covered : AreCachedEntriesCovered b plan (view_of_table t).cells t.covered
  the_covered =
      covered_stay b image plan laws (view_of_table s).cells (view_of_table t).cells (place_of_spot y) (derived_well_formed b image plan laws (view_of_table s).cells (fine.table).derived) the_joining t.covered
      (subst (AreCachedEntriesCovered b plan (view_of_table s).cells) (sym (covered ∙ rose.covered)) fine.covered)

  pub the_joined : IsJoinedAt b image plan s t y v
  unfolding view_of_table the_joining
  the_joined = record {
    fine = record {
      table = the_table;
      listed = listed;
      counted = the_counted;
      covered = the_covered;
      exits = λ k p q h. fine.exits k p q (read_before (Point k p) q h);
      readers = λ z q h. known_stays q (fine.readers z q (read_before z q h));
      plain = λ q at.
          elim (marks_by q) [
            | inl l ↦ (let no : Some Queued ≡ Some Plain = sym l.0 ∙ at in cc)
            | inr r ↦ fine.plain q (sym r.0 ∙ at)
          ];
    };
    covers = joined_covers b image plan laws (view_of_table s).cells (view_of_table t).cells (place_of_spot y) (derived_well_formed b image plan laws (view_of_table s).cells (fine.table).derived) the_joining;
    keeps = the_keeping;
  }

-- the readers of y are known still, and only exits are read
pub told_known : (b : Limits) (image : ImageData) (plan : PlanData) (s m : made.Table) (y : Spot) (v : Known) → TableInvariantHolds b image plan s → RaisesOnlyPlace b s m y v → AreKnownPlaces m.places (IsAmongReaders (get spot_eq m.readers y))
told_known b image plan s m y v fine rose q h =
    let before : IsSome (value_of_place s.places q) = fine.readers y q (subst (λ r. IsAmongReaders (get spot_eq r y) q) rose.readers h) in
    elim (sides (spot_eq y q) (Some rose.known) (value_of_place s.places q) (value_of_place m.places q) ((rose.puts).values q)) [
      | inl l ↦ subst (λ (o : Option Known). IsSome o) (sym l.1) refl
      | inr r ↦ subst (λ (o : Option Known). IsSome o) (sym r.1) before
    ]

pub exits_after : (b : Limits) (image : ImageData) (plan : PlanData) (s m : made.Table) (y : Spot) (v : Known) → TableInvariantHolds b image plan s → RaisesOnlyPlace b s m y v → OnlyExitsHaveReaders m.readers
exits_after b image plan s m y v fine rose k p q h = fine.exits k p q (subst (λ r. IsAmongReaders (get spot_eq r (Point k p)) q) rose.readers h)

-- nothing had to be done
pub stays_joined : (b : Limits) (image : ImageData) (plan : PlanData) (s : made.Table) (y : Spot) (v : Known) → TableInvariantHolds b image plan s → AssignmentCovers (λ q. value_of_place s.places (spot_of q)) (place_of_spot y) v → IsJoinedAt b image plan s s y v
unfolding view_of_table
stays_joined b image plan s y v fine covers = record {
  fine = fine;
  covers = covers;
  keeps = record { each = λ x free. (refl, refl); readers = λ z x h free. h; read = λ z x h free. refl; settled = λ k p w d free ps pd h. h; rises = inr (refl, refl); near = refl; numbers = λ n q h. h };
}

-- a join that fails is a fault
pub the_answer : (b : Limits) (image : ImageData) (plan : PlanData) (s : made.Table) (y : Spot) (w v : Known) → TableInvariantHolds b image plan s → AsksFor b image plan (view_of_table s).cells (place_of_spot y) v → value_of_place s.places y ≡ Some w
    → joined_known b w v ≡ None → RefusalNamesFault b image plan (Fault 8 y)
unfolding view_of_table
the_answer b image plan s y w v fine asks at none =
    let f = unjoined_fault b image plan (view_of_table s).cells (fine.table).derived (place_of_spot y) v w asks (ap (value_of_place s.places) (forth y) ∙ at) none in
    (f.0, f.1, f.2, derived (view_of_table s).cells 8 f.0 f.1 (fine.table).derived f.3)
