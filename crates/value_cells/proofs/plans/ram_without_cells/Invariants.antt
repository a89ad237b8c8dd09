use Rattle.std.proofs.Common.{◌≡◌, take}
use Rattle.value_cells.specs.Cells as spec
use Rattle.value_cells.proofs.plans.ram_without_cells.Given as goal

-- ram without the cells so far
abbrev pub invariant-loop-cell : goal.invariant-loop-cell
invariant-loop-cell l = l.ram.items ≡ spec.ram_without_cells (take l.cell-index l.cells) l.plan.ram
