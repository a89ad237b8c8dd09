-- The maker's table between two steps, and at the end.
use Rattle.std.specs.Prelude.{ℕ, ◌≡◌, Some, true, Contains}
use Rattle.indexmap.specs.IndexMap.{IndexMap, get}
use Rattle.std.specs.declared.vec.Vec.{Vec}
use Rattle.std.specs.declared.alloc.Global.{Global}
use Rattle.elf_image.specs.Images.{ImageData}
use Rattle.tcd_plan.specs.PlanData.{PlanData}
use Rattle.value_domain.specs.Limits.{Limits}
use Rattle.depth_cert.specs.declared.keys.Key.{Key}
use Rattle.cfg_recover.specs.Assignments.{Closed, Derived, ArePointsFaultless, point, AssignmentCovers, exit}
use Rattle.depth_maker.specs.TableView.{view_of_table, TableView}
use Rattle.frame_places.specs.declared.places.Spot.{Spot}
use Rattle.frame_places.specs.declared.places.Spot.TheVariants.{Point}
use Rattle.depth_maker.specs.declared.table.Table as made
use Rattle.frame_places.specs.Spots.{spot_eq}
use Rattle.frame_places.specs.Marks.{mark_of_place, AreQueuedPlacesListed, AreKnownPlaces, IsAmongReaders, value_of_place}
use Rattle.frame_places.specs.Work.{all_work}
use Rattle.depth_maker.specs.AssignmentCounts.{ListsTablePlaces}
use Rattle.depth_maker.specs.Covered.{AreCachedEntriesCovered}
use Rattle.depth_maker.specs.declared.inputs_and_limits.Ground.{Ground}
use Rattle.depth_cert.specs.Known.{Known, state, leaving}
use Rattle.frame_places.specs.declared.places.Marked.{Marked}
use Rattle.frame_places.specs.declared.places.Mark.TheVariants.{Plain}
use Rattle.depth_maker.specs.EnteredFrames.{PlaceEntersNoFrame}
use Rattle.value_domain.specs.declared.states.State.{State}
use Rattle.depth_cert.specs.Exits.{state_after_return}
use Rattle.cfg_recover.specs.Duties.{Duty, jump, enter, resume, leave, Owed, duties_of}
use Rattle.tc_isa.specs.declared.shapes.Shape.{Shape}
use Rattle.cfg_recover.specs.Code.{IsCode}
use Rattle.cfg_recover.specs.LocalFaults.{IsFaultless}
use Rattle.depth_cert.specs.WellFormed.{IsWellFormedKnown}

-- ---- the table

-- invariant of the maker's table: points only read exits, so no point has a reader
abbrev pub OnlyExitsHaveReaders : {S : Type 0} → IndexMap Spot (Vec Spot Global) S → Type 0
OnlyExitsHaveReaders readers = (k : Key) (p : ℕ) (q : Spot) → IsAmongReaders (get spot_eq readers (Point k p)) q → ⊥

-- invariant of the maker's table: the instruction of a place that is marked as plain enters no
-- frame by itself
abbrev pub ArePlainMarksRight : {S : Type 0} → ImageData → PlanData → IndexMap Spot (Marked Known) S → Type 0
ArePlainMarksRight image plan places = (q : Spot) → mark_of_place places q ≡ Some Plain → PlaceEntersNoFrame image plan q

-- if the exit of the entered frame is known, the state after its return is covered at the point to
-- return to
abbrev pub IsReturnCovered : TableView → Key → State → Key → ℕ → Known → Type 0
IsReturnCovered t key s k q (leaving x) = AssignmentCovers t.cells (point key q) (state (state_after_return s x k.kind))
IsReturnCovered t key s k q (state u) = Unit {0}

-- a duty of a point is covered in the maker's table, and the point reads the exit, if any, that the
-- duty depends on
abbrev pub IsDutySettled : TableView → Key → ℕ → State → Duty → Type 0
IsDutySettled t key p s (jump q u) = AssignmentCovers t.cells (point key q) (state u)
IsDutySettled t key p s (enter k u) = AssignmentCovers t.cells (point k k.entry) (state u)
IsDutySettled t key p s (resume k q) = ((x : Known) → t.cells (exit k) ≡ Some x → IsReturnCovered t key s k q x) × t.reads (exit k) (point key p)
IsDutySettled t key p s (leave x) = AssignmentCovers t.cells (exit key) (leaving x)

-- the invariant of the table's view: the assignment is derived, and each duty of a point without
-- work is covered
pub record ViewInvariantHolds (b : Limits) (image : ImageData) (plan : PlanData) (t : TableView) : Type 0 where
  pub derived : Derived b image plan t.cells
  pub own : (k : Key) (p : ℕ) (s : State) → t.cells (point k p) ≡ Some (state s) → t.idle (point k p) ≡ true → IsFaultless b image plan k p s
  pub settled :
      (k : Key) (p : ℕ) (s : State) (shape : Shape) (n : ℕ) (d : Owed) → t.cells (point k p) ≡ Some (state s) → t.idle (point k p) ≡ true
      → IsCode image plan p shape n → Contains (duties_of b image plan k p s shape n) d → IsDutySettled t k p s d.duty

-- the invariant of the maker's table between two joins
pub record TableInvariantHolds (b : Limits) (image : ImageData) (plan : PlanData) (t : made.Table) : Type 0 where
  pub table : ViewInvariantHolds b image plan (view_of_table t)
  pub listed : AreQueuedPlacesListed t.places (all_work t.work)
  pub counted : ListsTablePlaces t.places t.points.items t.frames.items
  pub covered : AreCachedEntriesCovered b plan (view_of_table t).cells t.covered
  pub exits : OnlyExitsHaveReaders t.readers
  pub readers : (z : Spot) → AreKnownPlaces t.places (IsAmongReaders (get spot_eq t.readers z))
  pub plain : ArePlainMarksRight image plan t.places

-- the maker's finished table is the least fixpoint: its assignment is derived, closed and without
-- faults, hence the least of these
pub record IsLeastFixpointTable (g : Ground) (t : made.Table) : Type 0 where
  pub derived : Derived g.bounds.now g.image.now g.plan.now (view_of_table t).cells
  pub closed : Closed g.bounds.now g.image.now g.plan.now (view_of_table t).cells
  pub faultless : ArePointsFaultless g.bounds.now g.image.now g.plan.now (view_of_table t).cells
  pub plain : ArePlainMarksRight g.image.now g.plan.now t.places
  pub counted : ListsTablePlaces t.places t.points.items t.frames.items

-- ---- by the types of the code
-- the invariant of the maker's table between two joins, for the image, plan and limits at hand
abbrev pub TableInvariantHoldsForInputs : Ground → made.Table → Type 0
TableInvariantHoldsForInputs g t = TableInvariantHolds g.bounds.now g.image.now g.plan.now t

-- each known state or exit of the maker's table is well-formed within these limits
abbrev pub AreKnownWellFormed : {S : Type 0} → Limits → IndexMap Spot (Marked Known) S → Type 0
AreKnownWellFormed b places = (q : Spot) (v : Known) → value_of_place places q ≡ Some v → IsWellFormedKnown b v
