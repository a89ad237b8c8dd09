-- Needs that meet the rows.
use Rattle.std.specs.Prelude.{◌≡◌, ℕ, ◌+◌, ◌<◌, ◌≤◌, List, length, Contains, min, slice_index, ◌^◌, Bool, true, false, sum, Option, Some, None, Result, Ok, Err}
use Rattle.std.specs.declared.vec.Vec.{Vec}
use Rattle.std.specs.declared.alloc.Global.{Global}
use Rattle.std.specs.declared.alloc.AllocError.{AllocError}
use Rattle.frame_places.specs.declared.needs.row.NeedRow.{NeedRow}

-- the need of a row's frame has room for its locals and, for each frame entered, for one area and
-- that frame's need more
pub record MeetsRow (need : ℕ → ℕ) (row : NeedRow) : Type 0 where
  pub held : row.held ≤ need row.node
  pub into : (t : ℕ) → Contains row.into.items t → row.held + 1 + need t ≤ need row.node

-- the needs of frames meet each of these rows
abbrev pub MeetsRows : (ℕ → ℕ) → List NeedRow → Type 0
MeetsRows need rows = (row : NeedRow) → Contains rows row → MeetsRow need row

-- the rows are of frames with numbers below `nodes`, and hold fewer than 256 areas
pub record AreRowsWithin (rows : List NeedRow) (nodes : ℕ) : Type 0 where
  pub node : (row : NeedRow) → Contains rows row → row.node < nodes
  pub held : (row : NeedRow) → Contains rows row → row.held < 2 ^ 8
  pub into : (row : NeedRow) (t : ℕ) → Contains rows row → Contains row.into.items t → t < nodes

-- the needs are lower bounds: at most those of any needs that meet the rows
abbrev pub AreLowerBounds : List ℕ → List NeedRow → Type 0
AreLowerBounds needs rows = (other : ℕ → ℕ) → MeetsRows other rows → (k : ℕ) → k < length needs → slice_index needs k ≤ other k

-- the need of a row's frame meets the row, or is one above the cap
pub record MeetsRowUpToCap (cap : ℕ) (needs : List ℕ) (row : NeedRow) : Type 0 where
  pub held : min row.held (cap + 1) ≤ slice_index needs row.node
  pub into : (t : ℕ) → Contains row.into.items t → min (row.held + 1 + slice_index needs t) (cap + 1) ≤ slice_index needs row.node

-- none of these needs of frames is above the other ones
abbrev pub AreNeedsAtMost : List ℕ → (ℕ → ℕ) → Type 0
AreNeedsAtMost needs other = (k : ℕ) → k < length needs → slice_index needs k ≤ other k

-- a step of the iteration for the least needs: one row's need is raised if too low, and stays a
-- lower bound
pub record RaisesNeedByRow (cap : ℕ) (old new : List ℕ) (row : NeedRow) (changed : Bool) : Type 0 where
  pub low : (other : ℕ → ℕ) → MeetsRow other row → AreNeedsAtMost old other → AreNeedsAtMost new other
  pub capped : (k : ℕ) → slice_index new k ≤ cap + 1
  pub grows : changed ≡ true → sum old < sum new
  pub same : changed ≡ false → new ≡ old
  pub met : changed ≡ false → MeetsRowUpToCap cap new row

-- a pass of the iteration for the least needs: needs are raised by these rows, and stay lower
-- bounds
pub record RaisesNeedsByRows (cap : ℕ) (old new : List ℕ) (rows : List NeedRow) (changed : Bool) : Type 0 where
  pub low : (other : ℕ → ℕ) → MeetsRows other rows → AreNeedsAtMost old other → AreNeedsAtMost new other
  pub capped : (k : ℕ) → slice_index new k ≤ cap + 1
  pub grows : changed ≡ true → sum old < sum new
  pub same : changed ≡ false → new ≡ old
  pub met : changed ≡ false → (row : NeedRow) → Contains rows row → MeetsRowUpToCap cap new row

-- the result is the least needs that meet the rows, within the cap; or none, if no needs do
abbrev pub IsLeastNeedsResult : ℕ → List NeedRow → ℕ → Result (Option (Vec ℕ Global)) AllocError → Type 0
IsLeastNeedsResult nodes rows cap (Ok (Some needs)) = (length needs.items ≡ nodes) × MeetsRows (λ k. slice_index needs.items k) rows × AreLowerBounds needs.items rows × ((k : ℕ) → slice_index needs.items k ≤ cap)
IsLeastNeedsResult nodes rows cap (Ok None) = (other : ℕ → ℕ) → MeetsRows other rows → (k : ℕ) × (k < nodes) × (cap < other k)
IsLeastNeedsResult nodes rows cap (Err e) = Unit {0}
