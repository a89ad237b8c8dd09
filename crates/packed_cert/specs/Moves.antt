-- What the states of points share with those of the points before them.
use Rattle.std.specs.Prelude.{◌≡◌, ◌≤◌, ◌<◌, ◌+◌, ◌-◌, ℕ, IsTrue, slice_index_or, List, length, drop}
use Rattle.value_domain.specs.declared.states.State.{State}
use Rattle.packed_cert.specs.declared.places.PointPlace.{PointPlace}
use Rattle.packed_cert.specs.ChangedRows.{ChangesOnlyRow}
use Rattle.packed_cert.specs.PointsInBytes.{state_in_bytes}
use Rattle.packed_cert.specs.ValuesInBytes.{values_in_bytes, ValuesBeginAt}

-- A point's state differs from the one before only in the point's row. The values from the row on
-- are where the point says, and the whole state is the same if the point says so.
pub record DiffersOnlyInRow (version : ℕ) (bytes : List ℕ) (before : State) (p : PointPlace) : Type 0 where
  pub row : ChangesOnlyRow before.regs (state_in_bytes version bytes p.place).regs p.row
  pub few : (p.row).behind ≤ 27
  pub have : 0 < (p.row).behind → ValuesBeginAt version bytes (p.row).from (27 - (p.row).first)
  pub stand : 0 < (p.row).behind → drop (p.row).first (state_in_bytes version bytes p.place).regs ≡ values_in_bytes version bytes (p.row).from (27 - (p.row).first)
  pub same : IsTrue p.same → state_in_bytes version bytes p.place ≡ before

-- a walk may have this current state before point k: that of the point before k, or any state if k
-- is the first
pub record IsStateBefore (version : ℕ) (bytes : List ℕ) (ps : List PointPlace) (k : ℕ) (s : State) : Type 0 where
  pub count : length s.regs ≡ 27
  pub last : (j : ℕ) (d : PointPlace) → j + 1 ≡ k → s ≡ state_in_bytes version bytes (slice_index_or ps j d).place

-- each point's state differs from the one before only in the point's row, as the point says
abbrev pub AllDifferOnlyInRows : ℕ → List ℕ → List PointPlace → Type 0
AllDifferOnlyInRows version bytes ps = (k : ℕ) (d : PointPlace) (s : State) → k < length ps → IsStateBefore version bytes ps k s → DiffersOnlyInRow version bytes s (slice_index_or ps k d)
