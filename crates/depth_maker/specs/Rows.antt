-- The rows of an assignment or a table: each point's frame, its locals, and the frames that it
-- enters.
use Rattle.std.specs.Prelude.{◌≡◌, ◌++◌, ℕ, List, ◌∷◌, take, Option, Some, Contains, slice_get, length, map, []}
use Rattle.indexmap.specs.IndexMap.{get, keys}
use Rattle.value_domain.specs.declared.states.State.{State}
use Rattle.depth_cert.specs.declared.keys.Key.{Key}
use Rattle.cfg_recover.specs.declared.local_rules.Located.{Located}
use Rattle.cfg_recover.specs.Assignments.{point, Assignment}
use Rattle.depth_cert.specs.Known.{Known, state}
use Rattle.small_states.specs.CompactForms.{IsOutline}
use Rattle.small_states.specs.declared.known.Outline.{Outline}
use Rattle.depth_maker.specs.InterruptHandlers.{AreHandlersOfIrqs, handler_nodes_if_enabled}
use Rattle.frame_places.specs.Numbers.{AreFrameNumbers, frame_number_in}
use Rattle.frame_places.specs.Spots.{spot_eq}
use Rattle.depth_maker.specs.TableInvariant.{IsLeastFixpointTable}
use Rattle.depth_maker.specs.TableView.{view_of_table}
use Rattle.depth_maker.specs.VisitDuties.{IsFaultlessInstruction, visit_duties}
use Rattle.depth_maker.specs.declared.inputs_and_limits.Ground.{Ground}
use Rattle.depth_maker.specs.declared.inputs_and_limits.Visit.{Visit}
use Rattle.frame_places.specs.declared.places.Spot.TheVariants.{Point}
use Rattle.frame_places.specs.declared.places.Mark.TheVariants.{Plain}
use Rattle.frame_places.specs.declared.places.Marked.{Marked}
use Rattle.frame_places.specs.declared.needs.row.NeedRow.{NeedRow}
use Rattle.depth_maker.specs.declared.rows.RowsDraft.{RowsDraft}
use Rattle.depth_maker.specs.declared.rows.KnownPoint.{KnownPoint}
use Rattle.depth_maker.specs.declared.rows.Source.{Source}
use Rattle.depth_maker.specs.declared.table.Table as made
use Rattle.elf_image.specs.Images.{ImageData}
use Rattle.tcd_plan.specs.PlanData.{PlanData}
use Rattle.value_domain.specs.Limits.{Limits}
use Rattle.cfg_recover.specs.LocalFaults.{IsFaultlessShape}
use Rattle.cfg_recover.specs.Duties.{duties_of, entered_keys}

-- the row, for the needs, of the point p of frame k with state u: its frame, locals, and the frames
-- entered, by numbers
pub record IsRowOfPoint (b : Limits) (image : ImageData) (plan : PlanData) (frames : List Key) (k : Key) (p : ℕ) (u : State) (row : NeedRow) : Type 0 where
  pub found : Located
  pub stands : IsFaultlessShape b image plan k p u found
  pub node : row.node ≡ frame_number_in frames k
  pub held : row.held ≡ length u.locals.items
  pub into : row.into.items ≡ map (frame_number_in frames) (entered_keys (duties_of b image plan k p u found.shape found.size))

-- each row is that of a point, and each point has its row
pub record AreRowsOfPoints (b : Limits) (image : ImageData) (plan : PlanData) (a : Assignment) (frames : List Key) (rows : List NeedRow) : Type 0 where
  pub sound : (row : NeedRow) → Contains rows row → (k : Key) × (p : ℕ) × (u : State) × (a (point k p) ≡ Some (state u)) × IsRowOfPoint b image plan frames k p u row
  pub complete : (k : Key) (p : ℕ) (u : State) → a (point k p) ≡ Some (state u) → (row : NeedRow) × Contains rows row × IsRowOfPoint b image plan frames k p u row

-- the row of the visited point, from its instruction and its state
abbrev pub IsRowOfVisitedPoint : Visit → List Key → NeedRow → Type 0
IsRowOfVisitedPoint v frames row = IsRowOfPoint (v.ground.now).bounds.now (v.ground.now).image.now (v.ground.now).plan.now frames v.key v.addr v.state.now row

-- the visited point's frame, and each frame that the point enters, is among these frames
pub record AreRowFramesAmong (v : Visit) (frames : List Key) : Type 0 where
  pub own : Contains frames v.key
  pub entered : (found : Located) → IsFaultlessInstruction v found → (k : Key) → Contains (entered_keys (visit_duties v found)) k → Contains frames k

-- the rows, for the needs, of all known points of the maker's table
abbrev pub AreRowsOfTable : Ground → made.Table → List NeedRow → Type 0
AreRowsOfTable g t rows = AreRowsOfPoints g.bounds.now g.image.now g.plan.now (view_of_table t).cells t.frames.items rows

-- the source has a finished table of the maker, the numbers of its frames, and its interrupt
-- handlers
pub record HasFinishedTable (s : Source) : Type 0 where
  pub done : IsLeastFixpointTable s.ground.now s.table.now
  pub numbers : AreFrameNumbers s.numbers.now (s.table.now).frames.items (s.table.now).frames.items
  pub handlers : AreHandlersOfIrqs (s.ground.now).plan.now (s.table.now).frames.items ((s.ground.now).plan.now).irqs s.handlers.now

-- the row, for the needs, of the point p of frame k, by its state in the maker's table
abbrev pub IsRowOfTablePoint : Source → Key → ℕ → NeedRow → Type 0
IsRowOfTablePoint s k p row =
    (u : State) × ((view_of_table s.table.now).cells (point k p) ≡ Some (state u))
    × IsRowOfPoint (s.ground.now).bounds.now (s.ground.now).image.now (s.ground.now).plan.now (s.table.now).frames.items k p u row

-- the point is as the maker's table has it: its value with its mark, and the number of its frame
pub record IsTablePoint (s : Source) (at : KnownPoint) : Type 0 where
  pub known : get spot_eq (s.table.now).places (Point at.key at.addr) ≡ Some at.known.now
  pub node : at.node ≡ frame_number_in (s.table.now).frames.items at.key

-- ---- equal rows
-- the row of a point of this frame with this outline, whose instruction enters no frame by itself
pub record IsRowOfOutline (s : Source) (number : ℕ) (o : Outline) (row : NeedRow) : Type 0 where
  pub node : row.node ≡ number
  pub held : row.held ≡ o.held
  pub into : row.into.items ≡ handler_nodes_if_enabled o.ie o.ccpn s.handlers.now

-- each outline that a frame's plain points share has its row among these rows
abbrev pub OutlinesHaveRows : Source → List NeedRow → List (Option Outline) → Type 0
OutlinesHaveRows s rows outlines = (number : ℕ) (o : Outline) → slice_get outlines number ≡ Some (Some o) → (row : NeedRow) × Contains rows row × IsRowOfOutline s number o row

-- the point enters frames only by interrupts, and its outline (IE, CCPN, number of locals) is the
-- one that is listed for its frame
pub record HasListedOutline (outlines : List (Option Outline)) (node : ℕ) (known : Marked Known) : Type 0 where
  pub outline : Outline
  pub there : slice_get outlines node ≡ Some (Some outline)
  pub is : IsOutline known.value outline
  pub plain : known.mark ≡ Plain

-- ---- one after another
-- the draft has the rows of the points among the first `count` places of the maker's table
pub record HasRowsOfFirst (s : Source) (count : ℕ) (draft : RowsDraft) : Type 0 where
  pub sound : (row : NeedRow) → Contains draft.rows.items row → (k : Key) × (p : ℕ) × IsRowOfTablePoint s k p row
  pub complete :
      (k : Key) (p : ℕ) → Contains (take count (keys (s.table.now).places)) (Point k p)
      → (row : NeedRow) × Contains draft.rows.items row × IsRowOfTablePoint s k p row
  pub outlines : OutlinesHaveRows s draft.rows.items draft.outlines.items

-- one more row is appended to the draft, and the shared outlines still have their rows
pub record AddsRow (s : Source) (old new : RowsDraft) (row : NeedRow) : Type 0 where
  pub rows : new.rows.items ≡ old.rows.items ++ row ∷ []
  pub outlines : OutlinesHaveRows s old.rows.items old.outlines.items → OutlinesHaveRows s new.rows.items new.outlines.items

-- the row of this point is appended to the draft of the rows
abbrev pub AddsPointRow : Source → RowsDraft → RowsDraft → KnownPoint → Type 0
AddsPointRow s old new at = (row : NeedRow) × IsRowOfTablePoint s at.key at.addr row × AddsRow s old new row
