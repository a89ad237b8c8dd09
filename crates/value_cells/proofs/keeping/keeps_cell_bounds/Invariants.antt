use Rattle.std.proofs.Common.{◌+◌, ◌-◌, ◌≤◌, ◌<◌, ℕ}
use Rattle.value_cells.specs.Keeping.{IsStoreAllowedAt}
use Rattle.value_cells.proofs.keeping.keeps_cell_bounds.Given as goal

-- each access tried so far is kept
abbrev pub invariant-loop-x : goal.invariant-loop-x
invariant-loop-x l = (l.cell.at - (l.size - 1) ≤ l.x) × (l.x ≤ l.cell.at + 3) × ((y : ℕ) → l.cell.at - (l.size - 1) ≤ y → y < l.x → IsStoreAllowedAt l.at l.fits l.cell.at y)

abbrev pub decreases-loop-x : goal.decreases-loop-x
decreases-loop-x l = l.cell.at + 3 - l.x
