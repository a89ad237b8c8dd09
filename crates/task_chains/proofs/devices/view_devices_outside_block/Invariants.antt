use Rattle.std.proofs.Common.{◌≡◌, ◌++◌, map, take}
use Rattle.task_chains.specs.Devices.{any_word_device}
use Rattle.task_chains.proofs.devices.view_devices_outside_block.Given as goal

-- the plan's peripherals, and those of the ranges so far
abbrev pub invariant-loop-range : goal.invariant-loop-range
invariant-loop-range l = l.devices.items ≡ (l.plan).devices ++ map any_word_device (take l.range-index l.range-items)
