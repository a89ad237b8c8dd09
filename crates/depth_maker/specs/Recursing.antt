-- The first point that enters a frame from which its own is reached, by the types of the code.
use Rattle.std.specs.Prelude.{◌≤◌, ℕ, Bool, List, [], ◌∷◌, ◌++◌, map, Option, Some, None, Contains}
use Rattle.value_domain.specs.declared.states.State.{State}
use Rattle.depth_cert.specs.declared.keys.Key.{Key}
use Rattle.depth_cert.specs.Keys.{number_of_key}
use Rattle.cfg_recover.specs.CertRefusals.{EntersRecursion, IsRefusedRecursion}
use Rattle.cfg_recover.specs.Assignments.{EntersInAssignment}
use Rattle.frame_places.specs.Numbers.{frame_number_in}
use Rattle.frame_places.specs.NodeGraph.{AreEdgesOfRows, IsNodeMarked}
use Rattle.depth_maker.specs.Rows.{AreRowsOfTable}
use Rattle.depth_maker.specs.TableView.{view_of_table}
use Rattle.frame_places.specs.declared.places.Spot.{Spot}
use Rattle.frame_places.specs.declared.places.Spot.TheVariants.{Point}
use Rattle.frame_places.specs.declared.needs.reach.FrameEdge.{FrameEdge}
use Rattle.frame_places.specs.declared.needs.row.NeedRow.{NeedRow}
use Rattle.depth_maker.specs.declared.rows.Source.{Source}

-- in the assignment of the maker's table, the point p of the frame k with the state u enters the
-- frame t
abbrev pub PointEntersFrame : Source → Key → ℕ → State → Key → Type 0
PointEntersFrame s k p u t = EntersInAssignment (s.ground.now).bounds.now (s.ground.now).image.now (s.ground.now).plan.now (view_of_table s.table.now).cells k p u t

-- in the maker's table, the point p of the frame k enters a frame from which k is reached
abbrev pub IsRecursivePoint : Source → Key → ℕ → Type 0
IsRecursivePoint s k p = EntersRecursion (s.ground.now).bounds.now (s.ground.now).image.now (s.ground.now).plan.now (view_of_table s.table.now).cells k p

-- in the maker's table, the point p of k is the first, by key and address, that enters a frame from
-- which k is reached
abbrev pub IsFirstRecursivePoint : Source → Key → ℕ → Type 0
IsFirstRecursivePoint s k p = IsRefusedRecursion (s.ground.now).bounds.now (s.ground.now).image.now (s.ground.now).plan.now (view_of_table s.table.now).cells k p

-- the first point, by key and address, that enters a frame from which its own is reached; or no
-- point does
abbrev pub IsFirstRecursion : Source → Option (Key × ℕ) → Type 0
IsFirstRecursion s None = (k : Key) (p : ℕ) → IsRecursivePoint s k p → ⊥
IsFirstRecursion s (Some x) = IsFirstRecursivePoint s x.0 x.1

-- the edges of the maker's frames, by their numbers: from each point's frame to the frames that the
-- point enters
abbrev pub AreTableEdges : Source → List FrameEdge → Type 0
AreTableEdges s edges = (rows : List NeedRow) × AreRowsOfTable s.ground.now s.table.now rows × AreEdgesOfRows rows edges

-- the numbers of the keys of the maker's frames, by which recursions are ordered
abbrev pub frame_key_numbers : Source → List ℕ
frame_key_numbers s = map number_of_key (s.table.now).frames.items

-- in the maker's table, the point p of the frame k enters a frame that is marked
pub record EntersMarkedFrame (s : Source) (marks : List Bool) (k : Key) (p : ℕ) : Type 0 where
  pub before : State
  pub next : Key
  pub enters : PointEntersFrame s k p before next
  pub marked : IsNodeMarked marks (frame_number_in (s.table.now).frames.items next)

-- the least address, among these places of the frame k, at which a marked frame is entered; or no
-- place enters one
abbrev pub IsFirstRecursiveAddress : Source → List Bool → Key → List Spot → Option ℕ → Type 0
IsFirstRecursiveAddress s marks k ys None = (p : ℕ) → Contains ys (Point k p) → EntersMarkedFrame s marks k p → ⊥
IsFirstRecursiveAddress s marks k ys (Some p) = EntersMarkedFrame s marks k p × ((q : ℕ) → Contains ys (Point k q) → EntersMarkedFrame s marks k q → p ≤ q)

-- `new` is the first recursive address among some places and y, if `old` is the first among the
-- others
abbrev pub UpdatesFirstRecursiveAddress : Source → List Bool → Key → Spot → Option ℕ → Option ℕ → Type 0
UpdatesFirstRecursiveAddress s marks k y old new =
    (ys : List Spot) → IsFirstRecursiveAddress s marks k ys old → IsFirstRecursiveAddress s marks k (ys ++ y ∷ []) new
