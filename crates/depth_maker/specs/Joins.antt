-- What a join does to the maker's table.
use Rattle.std.specs.Prelude.{◌≡◌, ℕ, Bool, true, false, Option, None, Some, is_some, map, Result, Ok, Err, ◌⊎◌}
use Rattle.indexmap.specs.IndexMap.{get}
use Rattle.elf_image.specs.Images.{ImageData}
use Rattle.tcd_plan.specs.PlanData.{PlanData}
use Rattle.value_domain.specs.declared.states.State.{State}
use Rattle.value_domain.specs.Limits.{Limits}
use Rattle.depth_cert.specs.declared.keys.Key.{Key}
use Rattle.cfg_recover.specs.Duties.{Duty}
use Rattle.cfg_recover.specs.Assignments.{point, AssignmentCovers, AsksFor, joined_at_place, Place, is_same_place}
use Rattle.depth_cert.specs.Known.{Known, CoversKnown}
use Rattle.depth_cert.specs.WellFormed.{IsWellFormedState}
use Rattle.depth_maker.specs.WellFormedAssignments.{IsWellFormedDuty}
use Rattle.depth_maker.specs.TableView.{view_of_table, TableView}
use Rattle.depth_maker.specs.TableInvariant.{IsDutySettled, TableInvariantHoldsForInputs, TableInvariantHolds}
use Rattle.frame_places.specs.declared.places.Spot.{Spot}
use Rattle.frame_places.specs.declared.refusals.Refusal.{Refusal}
use Rattle.frame_places.specs.Spots.{spot_eq}
use Rattle.depth_maker.specs.SpotsAsPlaces.{spot_of, place_of_spot}
use Rattle.frame_places.specs.Counting.{frames_after_recording, points_after_recording}
use Rattle.frame_places.specs.Marks.{is_queued, mark_of_place, value_of_place, AreQueuedPlacesListed, SetsAndQueuesPlace, IsAmongReaders}
use Rattle.frame_places.specs.Numbers.{KeepsPlaceNumbers, PlaceHasNumber}
use Rattle.frame_places.specs.Work.{all_work}
use Rattle.depth_maker.specs.AssignmentCounts.{AreWithinCertLimits}
use Rattle.depth_maker.specs.TableLevels.{LevelRisesOrStays}
use Rattle.depth_maker.specs.declared.inputs_and_limits.Ground.{Ground}
use Rattle.depth_maker.specs.declared.table.Table as made
use Rattle.depth_maker.specs.Answers.{NamesDerivedFault}

-- the place y of the maker's table, which didn't cover v, is raised by joining v: y is queued and
-- counted, and nothing else changed
pub record RaisesOnlyPlace (b : Limits) (s t : made.Table) (y : Spot) (v : Known) : Type 0 where
  pub known : Known
  pub raises : joined_at_place b (value_of_place s.places y) v ≡ Some known
  pub new : (w : Known) → value_of_place s.places y ≡ Some w → CoversKnown w v → ⊥
  pub puts : SetsAndQueuesPlace s.places t.places y known
  pub listed : AreQueuedPlacesListed t.places (all_work t.work)
  pub near : t.near ≡ s.near
  pub readers : t.readers ≡ s.readers
  pub covered : t.covered ≡ s.covered
  pub points : t.points.items ≡ points_after_recording (is_some (value_of_place s.places y)) s.points.items y
  pub frames : t.frames.items ≡ frames_after_recording (is_some (value_of_place s.places y)) s.frames.items y
  pub few : AreWithinCertLimits (map place_of_spot t.points.items) t.frames.items

-- a join into the maker's table keeps all places without new work as they are, and as readers; it
-- keeps numbers, and never lowers the level
pub record JoinKeepsPlaces (b : Limits) (image : ImageData) (plan : PlanData) (s t : made.Table) : Type 0 where
  pub each :
      (x : Spot) → is_queued (mark_of_place t.places x) ≡ false
      → (mark_of_place t.places x ≡ mark_of_place s.places x) × (value_of_place t.places x ≡ value_of_place s.places x)
  pub readers : (z x : Spot) → IsAmongReaders (get spot_eq s.readers z) x → is_queued (mark_of_place t.places x) ≡ false → IsAmongReaders (get spot_eq t.readers z) x
  pub read :
      (z x : Spot) → IsAmongReaders (get spot_eq s.readers z) x → is_queued (mark_of_place t.places x) ≡ false → value_of_place t.places z ≡ value_of_place s.places z
  pub settled :
      (k : Key) (p : ℕ) (u : State) (d : Duty) → is_queued (mark_of_place t.places (spot_of (point k p))) ≡ false → IsWellFormedState b u → IsWellFormedDuty b d
      → IsDutySettled (view_of_table s) k p u d → IsDutySettled (view_of_table t) k p u d
  pub rises : LevelRisesOrStays s t
  pub near : t.near ≡ s.near
  pub numbers : KeepsPlaceNumbers s.places t.places

-- what flows in, v, was joined at the place y of the maker's table: y covers v, and the invariant
-- holds
pub record IsJoinedAt (b : Limits) (image : ImageData) (plan : PlanData) (s t : made.Table) (y : Spot) (v : Known) : Type 0 where
  pub fine : TableInvariantHolds b image plan t
  pub covers : AssignmentCovers (view_of_table t).cells (place_of_spot y) v
  pub keeps : JoinKeepsPlaces b image plan s t

-- the join changed nothing in the maker's table; at most there is more room for places
pub record JoinsNothing (g : Ground) (s t : made.Table) : Type 0 where
  pub fine : TableInvariantHoldsForInputs g t
  pub keeps : JoinKeepsPlaces g.bounds.now g.image.now g.plan.now s t
  pub entries : t.places.entries ≡ s.places.entries
  pub rest : t ≡ record s { places = t.places }

-- v flows into the place y from some point of the maker's table, which is what a join is asked for
abbrev pub FlowsInto : Ground → made.Table → Spot → Known → Type 0
FlowsInto g t y v = AsksFor g.bounds.now g.image.now g.plan.now (view_of_table t).cells (place_of_spot y) v

-- v was joined at the place y of the maker's table, for these inputs, and no other place changed
abbrev pub RaisesOnlyPlaceForInputs : Ground → made.Table → made.Table → Spot → Known → Type 0
RaisesOnlyPlaceForInputs g s t y v = RaisesOnlyPlace g.bounds.now s t y v

-- the place y was unknown and now has the value v; or y has this number already, and nothing
-- changed; or the refusal is right
abbrev pub AddsPlaceIfNew : Ground → made.Table → made.Table → Spot → Known → Result (Option ℕ) Refusal → Type 0
AddsPlaceIfNew g s t y v (Ok None) = RaisesOnlyPlaceForInputs g s t y v
AddsPlaceIfNew g s t y v (Ok (Some number)) = PlaceHasNumber t.places number y × JoinsNothing g s t
AddsPlaceIfNew g s t y v (Err e) = NamesDerivedFault g e

-- v was joined at y, and readers of y aren't queued yet; or y covers v already; or the refusal is
-- right
abbrev pub JoinsWithoutRequeuing : Ground → made.Table → made.Table → Spot → Known → Result Bool Refusal → Type 0
JoinsWithoutRequeuing g s t y v (Ok true) = RaisesOnlyPlaceForInputs g s t y v
JoinsWithoutRequeuing g s t y v (Ok false) = IsJoinedAt g.bounds.now g.image.now g.plan.now s t y v
JoinsWithoutRequeuing g s t y v (Err e) = NamesDerivedFault g e

-- v was joined at the place y of the maker's table, and readers of y are queued if y rose
abbrev pub JoinsAtPlace : Ground → made.Table → made.Table → Spot → Known → Type 0
JoinsAtPlace g s t y v = IsJoinedAt g.bounds.now g.image.now g.plan.now s t y v

-- what a join at y does to the maker's marks: y and its readers are queued, each other place is
-- queued or keeps its marks, and all but the readers of y stay readers
pub record QueuesPlaceAndReaders (a b : TableView) (y : Place) : Type 0 where
  pub each :
      (q : Place) → ((b.queued q ≡ true) × (b.idle q ≡ false))
      ⊎ ((b.idle q ≡ a.idle q) × (b.queued q ≡ a.queued q) × (is_same_place q y ≡ false) × (a.reads y q → ⊥))
  pub reads : (z x : Place) → a.reads z x → (a.reads y x → ⊥) → b.reads z x
