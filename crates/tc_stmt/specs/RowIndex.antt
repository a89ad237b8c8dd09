-- The row with a name, and rows that a search skips, since their names have another key.
use Rattle.std.specs.Prelude.{◌≡◌, ℕ, zero, suc, ◌+◌, ◌-◌, ◌*◌, ◌%◌, ◌==◌, ◌&&◌, not, nat_lt, Bool, true, false, List, ◌∷◌, length, slice_index, find, Option, []}
use Rattle.std.specs.Str.{bytes_eq}
use Rattle.tc_isa.specs.Rows.{RowData, table_rows}

-- A number below 256 that few names of rows share. It depends on the length and the first four
-- bytes, with 0 for missing bytes.
unfoldable pub name_key : List ℕ → ℕ
name_key name = (slice_index name 0 + 2 * slice_index name 1 + 9 * slice_index name 2 + 7 * slice_index name 3 + length name) % 256

-- the first row of the instruction table with this name, if an instruction has the name
abbrev pub row_of_name : List ℕ → Option RowData
row_of_name name = find (λ (r : RowData). bytes_eq r.name name) table_rows

-- none of the first n rows has a name with this key, so that a search for a statement's name can
-- skip them
abbrev pub are_first_without_key : ℕ → ℕ → List RowData → Bool
are_first_without_key zero k rs = true
are_first_without_key (suc n) k [] = true
are_first_without_key (suc n) k (r ∷ rs) = not (name_key r.name == k) && are_first_without_key n k rs

-- the index of rows by the keys of their names is right: each place is after that of its row, and
-- no row between them has the same key
abbrev pub are_next_rows : ℕ → List RowData → List ℕ → Bool
are_next_rows i [] ns = true
are_next_rows i (r ∷ rs) [] = false
are_next_rows i (r ∷ rs) (n ∷ ns) = nat_lt i n && are_first_without_key (n - (i + 1)) (name_key r.name) rs && are_next_rows (i + 1) rs ns

-- the index of first rows is right: no row before the place for a key, from k on, has this key
abbrev pub are_first_rows : ℕ → List RowData → List ℕ → Bool
are_first_rows k rs [] = true
are_first_rows k rs (n ∷ ns) = are_first_without_key n k rs && are_first_rows (k + 1) rs ns

-- the index of first rows is right for all keys: no row before the place for a key has this key
abbrev pub IsFirstRowIndex : List RowData → List ℕ → Type 0
IsFirstRowIndex rows first = are_first_rows 0 rows first ≡ true

-- the index of next rows is right for all these rows: the place for a row is after it, and no row
-- between them has the same key
abbrev pub IsNextRowIndex : List RowData → List ℕ → Type 0
IsNextRowIndex rows next = are_next_rows 0 rows next ≡ true
