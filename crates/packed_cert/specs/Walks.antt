-- Walking over points one after another.
use Rattle.std.specs.Prelude.{◌≡◌, ◌≤◌, ◌<◌, ◌⊎◌, ℕ, slice_index_or, List, [], ◌∷◌, Option, Some, None, IsSomeAnd, length, drop, map}
use Rattle.std.specs.List.{All, Contains}
use Rattle.std.specs.List.Sorted.{IsStrictlyIncreasing}
use Rattle.value_domain.specs.declared.values.Val.{Val}
use Rattle.value_domain.specs.declared.states.State.{State}
use Rattle.value_domain.specs.Values.{any_val}
use Rattle.value_domain.specs.State.{Covers}
use Rattle.depth_cert.specs.declared.points.Point.{Point}
use Rattle.depth_cert.specs.Points.{find_point}
use Rattle.packed_cert.specs.declared.places.PointPlace.{PointPlace}
use Rattle.packed_cert.specs.declared.places.ValueRow.{ValueRow}
use Rattle.packed_cert.specs.PointsInBytes.{StateBeginsAt}
use Rattle.packed_cert.specs.Moves.{IsStateBefore, AllDifferOnlyInRows}

-- a walk over a node's points: all of them, the current state, its values that the last step may
-- have read, and the points left
pub record WalkData : Type 0 where
  pub points : List Point
  pub current : State
  pub anew : List Val
  pub left : List Point

-- after a walk advanced, each value of the current state is as before, or one of those that may be
-- new
abbrev pub KeepsOtherValues : State → WalkData → Type 0
KeepsOtherValues before after =
    (r : ℕ) → r < length (after.current).regs → ((r < length before.regs) × (slice_index_or (after.current).regs r any_val ≡ slice_index_or before.regs r any_val)) ⊎ Contains after.anew (slice_index_or (after.current).regs r any_val)

-- a walk advances: address and current state are those of the first point that was left; no address
-- if none was left
abbrev pub AdvancesTo : WalkData → Option ℕ → WalkData → Type 0
AdvancesTo before None after = (before.left ≡ []) × (after ≡ before)
AdvancesTo before (Some addr) after =
    (before.left ≡ record { addr = addr; state = after.current } ∷ after.left) × KeepsOtherValues before.current after × (after.points ≡ before.points)

-- the next point of a walk has this address and the current state
abbrev pub IsNextWithSameState : WalkData → ℕ → Type 0
IsNextWithSameState w addr = w.left ≡ record { addr = addr; state = w.current } ∷ drop 1 w.left

-- the next point of a walk has this address, and its state covers the state s
abbrev pub IsCoveredByNext : WalkData → ℕ → State → Type 0
IsCoveredByNext w addr s = (t : State) × (w.left ≡ record { addr = addr; state = t } ∷ drop 1 w.left) × Covers t s

-- the current state of a walk is covered by the state of the node's point at this address
abbrev pub IsCoveredAt : WalkData → ℕ → Type 0
IsCoveredAt w addr = IsSomeAnd (find_point addr w.points) (λ p. Covers p.state w.current)

-- what always holds of a walk: states are at their offsets, points differ only in their rows, and
-- the current state is the one before the next point
pub record IsWalk (version : ℕ) (bytes : List ℕ) (points : List PointPlace) (next : ℕ) (read : ValueRow) (state : State) : Type 0 where
  pub states : All (λ p. StateBeginsAt version bytes p.place) points
  pub rising : IsStrictlyIncreasing (map (λ p. p.addr) points)
  pub moves : AllDifferOnlyInRows version bytes points
  pub within : next ≤ length points
  pub here : IsStateBefore version bytes points next state
  pub order : read.first ≤ read.behind
  pub few : read.behind ≤ 27
