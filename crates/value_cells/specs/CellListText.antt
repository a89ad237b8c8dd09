-- The text of cells: the cells that its lines name for a plan, or the error of the first bad line.
use Rattle.std.specs.Prelude.{◌≡◌, ◌≢◌, ◌<◌, ◌≤◌, ◌+◌, ◌%◌, ◌^◌, ◌==◌, ◌&&◌, ◌⊎◌, ℕ, nat_le, if◌then◌else◌, List, ◌∷◌, ◌++◌, length, codes, filter_map, All, Any, Option, None, IsSome, IsSomeAnd, Result, Ok, Err, []}
use Rattle.std.specs.Bool.{then_some}
use Rattle.std.specs.Option.{option_and_then}
use Rattle.std.specs.Str.{bytes_eq}
use Rattle.tcd_plan.specs.PlanData.{PlanData}
use Rattle.tcd_base.specs.Ranges.{IsInOneRange}
use Rattle.tcd_text.specs.Lines.{text_lines, line_words}
use Rattle.tcd_text.specs.HexNumbers.{hex_number_of}
use Rattle.value_cells.specs.declared.cells.Cell.{Cell}
use Rattle.value_cells.specs.declared.errors.CellsErr.{CellsErr}
use Rattle.value_cells.specs.declared.errors.CellsErr.TheVariants.{BadLine, NotRam, Twice, TooMany}
use Rattle.value_cells.specs.Cells.{with_cells, AreCells}

-- ---- lines; the grammar is the project's own
-- the cell of these numbers, if it is at a multiple of 4 and its bounds are in order
abbrev pub cell_of_numbers : ℕ → ℕ → ℕ → Option Cell
cell_of_numbers at lo hi = then_some (at % 4 == 0 && nat_le lo hi) (record { at = at; lo = lo; hi = hi })

-- the cell of the words `cell AT LO HI`, each number of eight upper-case hex digits
unfoldable pub cell_of_words : List (List ℕ) → Option Cell
cell_of_words (word ∷ at ∷ lo ∷ hi ∷ []) =
    if bytes_eq word (codes "cell")
    then option_and_then (λ x. option_and_then (λ y. option_and_then (cell_of_numbers x y) (hex_number_of hi)) (hex_number_of lo)) (hex_number_of at)
    else None
cell_of_words words = None

-- the cell that a line names
abbrev pub cell_of_line : List ℕ → Option Cell
cell_of_line line = cell_of_words (line_words line)

-- a line is empty or names a cell
abbrev pub IsCellLine : List ℕ → Type 0
IsCellLine line = (line ≡ []) ⊎ IsSome (cell_of_line line)

-- what holds of the cell of each line: it is aligned, and its bounds are words and in order
pub record IsCellOfLine (c : Cell) : Type 0 where
  pub aligned : c.at % 4 ≡ 0
  pub ordered : c.lo ≤ c.hi
  pub word : c.hi < 2 ^ 32

-- ---- texts
-- these lines name these cells, and they are cells of the plan
pub record AreCellsOfText (plan : PlanData) (lines : List (List ℕ)) (cells : List Cell) : Type 0 where
  pub forms : All IsCellLine lines
  pub named : cells ≡ filter_map cell_of_line lines
  pub are : AreCells plan cells

-- there is room for the cell of one more line of the text: it leaves at most 16 ranges of ram and
-- at most 16 peripherals, which are a plan's limits
pub record HasRoomForCell (plan : PlanData) (cells : List Cell) (c : Cell) : Type 0 where
  pub ram : length (with_cells plan (cells ++ c ∷ [])).ram ≤ 16
  pub devices : length (with_cells plan (cells ++ c ∷ [])).devices ≤ 16

-- The error of one more cell from line n, the first of these that fits: its word isn't inside one
-- range of ram, an earlier line names the same word, or there is no room.
abbrev pub IsErrOfCell : PlanData → List Cell → Cell → ℕ → CellsErr → Type 0
IsErrOfCell plan cells c n (BadLine k) = ⊥
IsErrOfCell plan cells c n (NotRam k) = (k ≡ n) × (IsInOneRange c.at 4 plan.ram → ⊥)
IsErrOfCell plan cells c n (Twice k) = (k ≡ n) × IsInOneRange c.at 4 plan.ram × Any (λ d. d.at ≡ c.at) cells
IsErrOfCell plan cells c n (TooMany k) = (k ≡ n) × IsInOneRange c.at 4 plan.ram × All (λ d. d.at ≢ c.at) cells × (HasRoomForCell plan cells c → ⊥)

-- the error of line n after lines that name these cells: that of its form, else that of its cell
abbrev pub IsErrOfCellLine : PlanData → List Cell → List ℕ → ℕ → CellsErr → Type 0
IsErrOfCellLine plan cells line n (BadLine k) = (k ≡ n) × (IsCellLine line → ⊥)
IsErrOfCellLine plan cells line n e = IsSomeAnd (cell_of_line line) (λ c. IsErrOfCell plan cells c n e)

-- the error of a text of cells: that of the first bad line, counted from 1; the lines before name
-- cells of the plan
pub record IsErrOfCellText (plan : PlanData) (lines : List (List ℕ)) (e : CellsErr) : Type 0 where
  pub before : List (List ℕ)
  pub line : List ℕ
  pub behind : List (List ℕ)
  pub split : lines ≡ before ++ line ∷ behind
  pub cells : List Cell
  pub read : AreCellsOfText plan before cells
  pub bad : IsErrOfCellLine plan cells line (length before + 1) e

-- the answer for a text: the cells that its lines name, or the error of the first bad line
abbrev pub IsResultOfCellText : PlanData → List ℕ → Result (List Cell) CellsErr → Type 0
IsResultOfCellText plan bytes (Ok cells) = AreCellsOfText plan (text_lines bytes) cells
IsResultOfCellText plan bytes (Err e) = IsErrOfCellText plan (text_lines bytes) e

-- one more line after lines that name cells: it is empty or names a cell, and all are cells of the
-- plan
pub record AreCellsAfterLine (plan : PlanData) (cells : List Cell) (line : List ℕ) (more : List Cell) : Type 0 where
  pub form : IsCellLine line
  pub named : more ≡ cells ++ filter_map cell_of_line (line ∷ [])
  pub are : AreCells plan more

-- ---- the law
-- for each plan, a text of cells has at most one answer: a list of cells, or an error
abbrev pub CellTextHasOneResult : Type 0
CellTextHasOneResult = (plan : PlanData) (bytes : List ℕ) (r s : Result (List Cell) CellsErr) → IsResultOfCellText plan bytes r → IsResultOfCellText plan bytes s → r ≡ s
