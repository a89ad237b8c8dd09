use Rattle.std.proofs.Common.{◌<◌, ℕ, slice_index_or}
use Rattle.value_cells.specs.declared.cells.Cell.{Cell}
use Rattle.value_cells.specs.Keeping.{StoreKeepsCellBounds}
use Rattle.value_cells.proofs.keeping.keeps_all_cell_bounds.Given as goal

-- each cell tried so far is kept
abbrev pub invariant-loop-cell : goal.invariant-loop-cell
invariant-loop-cell l = (i : ℕ) (d : Cell) → i < l.cell-index → StoreKeepsCellBounds l.at l.size l.stored (slice_index_or l.cells i d)
