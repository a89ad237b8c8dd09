use Rattle.std.proofs.Common.{◌≡◌, ◌++◌, map, take}
use Rattle.value_cells.specs.Cells.{cell_device}
use Rattle.value_cells.proofs.plans.devices_with_cells.Given as goal

-- the peripherals of the cells so far
abbrev pub invariant-loop-cell : goal.invariant-loop-cell
invariant-loop-cell l = l.devices.items ≡ l.plan.devices ++ map cell_device (take l.cell-index l.cells)
