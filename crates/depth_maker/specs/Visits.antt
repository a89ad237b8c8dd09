-- Visits of places, and the steps and turns over the work list.
use Rattle.std.specs.Prelude.{◌≡◌, ◌<◌, ℕ, Bool, true, false, Some, Result, Ok, Err, []}
use Rattle.elf_image.specs.Images.{ImageData}
use Rattle.tcd_plan.specs.PlanData.{PlanData}
use Rattle.value_domain.specs.declared.states.State.{State}
use Rattle.value_domain.specs.Limits.{Limits}
use Rattle.depth_cert.specs.declared.keys.Key.{Key}
use Rattle.cfg_recover.specs.LocalFaults.{IsFaultless}
use Rattle.cfg_recover.specs.Assignments.{point}
use Rattle.depth_cert.specs.Known.{state}
use Rattle.depth_cert.specs.WellFormed.{IsWellFormedState}
use Rattle.depth_maker.specs.TableView.{view_of_table}
use Rattle.depth_maker.specs.TableInvariant.{TableInvariantHoldsForInputs, TableInvariantHolds}
use Rattle.frame_places.specs.declared.places.Spot.{Spot}
use Rattle.frame_places.specs.declared.places.Mark.TheVariants.{Open}
use Rattle.frame_places.specs.declared.refusals.Refusal.{Refusal}
use Rattle.depth_maker.specs.SpotsAsPlaces.{spot_of, place_of_spot}
use Rattle.frame_places.specs.Marks.{is_queued, mark_of_place}
use Rattle.frame_places.specs.Numbers.{PlaceHasNumber}
use Rattle.frame_places.specs.Work.{all_work}
use Rattle.depth_maker.specs.TableLevels.{level_of_table, LevelRisesOrWorkShrinks}
use Rattle.depth_maker.specs.declared.inputs_and_limits.Ground.{Ground}
use Rattle.depth_maker.specs.declared.inputs_and_limits.Visit.{Visit}
use Rattle.depth_maker.specs.Joins.{JoinKeepsPlaces}
use Rattle.depth_maker.specs.declared.table.Table as made
use Rattle.depth_maker.specs.Answers.{NamesDerivedFault}
use Rattle.depth_maker.specs.VisitDuties.{AllDutiesSettled}

-- the place x is the visited one, by the number that the maker's table has of that place
abbrev pub IsVisitedPlace : made.Table → Spot → Type 0
IsVisitedPlace t x = PlaceHasNumber t.places t.near x

-- a visit of x is under way, and no other place is being visited
pub record IsVisitOpenAt (t : made.Table) (x : Spot) : Type 0 where
  pub at : mark_of_place t.places x ≡ Some Open
  pub only : (q : Spot) → mark_of_place t.places q ≡ Some Open → q ≡ x
  pub stands : PlaceHasNumber t.places t.near x

-- no place of the maker's table is being visited
abbrev pub IsNoVisitOpen : made.Table → Type 0
IsNoVisitOpen t = (q : Spot) → mark_of_place t.places q ≡ Some Open → ⊥

-- the point x has no fault of its own; what it owes was joined, unless it has new work
pub record VisitJoinsDuties (b : Limits) (image : ImageData) (plan : PlanData) (s t : made.Table) (x : Spot) : Type 0 where
  pub fine : TableInvariantHolds b image plan t
  pub keeps : JoinKeepsPlaces b image plan s t
  pub faultless : (k : Key) (p : ℕ) (u : State) → place_of_spot x ≡ point k p → (view_of_table s).cells (point k p) ≡ Some (state u) → IsFaultless b image plan k p u
  pub settled :
      (k : Key) (p : ℕ) (u : State) → place_of_spot x ≡ point k p → (view_of_table s).cells (point k p) ≡ Some (state u)
      → is_queued (mark_of_place t.places x) ≡ false → AllDutiesSettled b image plan t k p u

-- between two joins of a visit of the maker: the point p has the state u, unless p has new work
pub record IsVisitedWithState (b : Limits) (image : ImageData) (plan : PlanData) (t : made.Table) (k : Key) (p : ℕ) (u : State) : Type 0 where
  pub fine : TableInvariantHolds b image plan t
  pub well_formed : IsWellFormedState b u
  pub at : is_queued (mark_of_place t.places (spot_of (point k p))) ≡ false → (view_of_table t).cells (point k p) ≡ Some (state u)
  pub stands : PlaceHasNumber t.places t.near (spot_of (point k p))

-- a visit of the point x: it found no fault of the point's own, and joined what the point owes,
-- unless the point has new work
abbrev pub VisitJoinsDutiesForInputs : Ground → made.Table → made.Table → Spot → Type 0
VisitJoinsDutiesForInputs g s t x = VisitJoinsDuties g.bounds.now g.image.now g.plan.now s t x

-- a step of the worklist algorithm: the table's level rose, or the work list is shorter by one;
-- false if the list was empty
abbrev pub VisitsNextPlace : Ground → made.Table → made.Table → Result Bool Refusal → Type 0
VisitsNextPlace g s t (Ok false) = TableInvariantHoldsForInputs g t × IsNoVisitOpen t × (level_of_table t ≡ level_of_table s) × (all_work t.work ≡ [])
VisitsNextPlace g s t (Ok true) = TableInvariantHoldsForInputs g t × IsNoVisitOpen t × LevelRisesOrWorkShrinks s t
VisitsNextPlace g s t (Err e) = NamesDerivedFault g e

-- a number of steps of the worklist algorithm: the table's level rose if some work is left
abbrev pub VisitsListedPlaces : Ground → made.Table → made.Table → Result Bool Refusal → Type 0
VisitsListedPlaces g s t (Ok more) = TableInvariantHoldsForInputs g t × IsNoVisitOpen t × (more ≡ true → level_of_table s < level_of_table t) × (more ≡ false → all_work t.work ≡ [])
VisitsListedPlaces g s t (Err e) = NamesDerivedFault g e

-- between two joins of a visit, the maker's table keeps its invariant, and the point its visited
-- state, unless queued with new work
abbrev pub VisitInvariantHolds : Visit → made.Table → Type 0
VisitInvariantHolds v t = IsVisitedWithState (v.ground.now).bounds.now (v.ground.now).image.now (v.ground.now).plan.now t v.key v.addr v.state.now
