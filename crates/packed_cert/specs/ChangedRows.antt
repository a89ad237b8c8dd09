-- The row of changed values in the state of a point: where it is, and what is outside it.
use Rattle.std.specs.Prelude.{◌≡◌, ◌≤◌, ◌<◌, ◌⊎◌, slice_index_or, ◌+◌, ℕ, List, length}
use Rattle.value_domain.specs.declared.values.Val.{Val}
use Rattle.value_domain.specs.Values.{any_val, IsBelow}
use Rattle.packed_cert.specs.declared.places.ValueRow.{ValueRow}
use Rattle.packed_cert.specs.ValuesInBytes.{offset_after_values}

-- a register's number is before or after a row of changed values
abbrev pub IsOutsideRow : ValueRow → ℕ → Type 0
IsOutsideRow row k = (k < row.first) ⊎ (row.behind ≤ k)

-- in each slot of a row of changed values, the value of one list is below that of another
abbrev pub AreBelowInRow : ValueRow → List Val → List Val → Type 0
AreBelowInRow row vs ws = (i : ℕ) → row.first ≤ i → i < row.behind → IsBelow (slice_index_or vs i any_val) (slice_index_or ws i any_val)

-- a state's values before and after differ only in this row: there are as many, and those outside
-- the row are as they were
pub record ChangesOnlyRow (before after : List Val) (row : ValueRow) : Type 0 where
  pub count : length after ≡ length before
  pub order : row.first ≤ row.behind
  pub within : row.behind ≤ length before
  pub kept : (k : ℕ) → k < length before → IsOutsideRow row k → slice_index_or after k any_val ≡ slice_index_or before k any_val

-- a row of changed values, if not empty, says the offset of its first value, among the values from
-- offset x on
abbrev pub IsRowOfValuesAt : List ℕ → ℕ → ValueRow → Type 0
IsRowOfValuesAt bytes x row = 0 < row.behind → row.from ≡ offset_after_values bytes x row.first

-- a row of changed values is the whole state: it has all n values
abbrev pub IsWholeRow : ℕ → ValueRow → Type 0
IsWholeRow n row = (row.first ≡ 0) × (row.behind ≡ n)

-- the row `more` is this row, extended to the value number `place`, which was read last
pub record IsRowExtendedTo (row : ValueRow) (place : ℕ) (more : ValueRow) : Type 0 where
  pub first : more.first ≤ place
  pub behind : more.behind ≡ place + 1
  pub others : (k : ℕ) → IsOutsideRow more k → IsOutsideRow row k × (k ≡ place → ⊥)
