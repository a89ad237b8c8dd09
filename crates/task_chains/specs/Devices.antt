-- The peripherals of a plan whose ram answers as peripherals do, without some of its bytes.
use Rattle.std.specs.Prelude.{◌++◌, ℕ, List, map, ◌-◌, ◌^◌}
use Rattle.tcd_plan.specs.declared.plans.Device.{Device}
use Rattle.tcd_plan.specs.PlanData.{PlanData}
use Rattle.tcd_plan.specs.Cutting.{ranges_outside}
use Rattle.tcd_base.specs.declared.range.Range.{Range}
use Rattle.task_chains.specs.Tasks.{TasksData, block_size}

-- a peripheral of a task's view in place of ram: a range that answers with any word
abbrev pub any_word_device : Range → Device
any_word_device r = record { range = r; lo = 0; hi = 2 ^ 32 - 1 }

-- the peripherals of a task's view: the plan's peripherals, and then what is left of each ram range
-- without the block
abbrev pub view_devices : PlanData → TasksData → List Device
view_devices plan tasks = plan.devices ++ map any_word_device (ranges_outside tasks.block (block_size tasks) plan.ram)

-- the peripherals of a plan whose ram answers as peripherals do: its own, and then what is left of
-- each ram range without the n bytes from x on
abbrev pub view_devices_outside_block : PlanData → ℕ → ℕ → List Device
view_devices_outside_block plan x n = plan.devices ++ map any_word_device (ranges_outside x n plan.ram)
