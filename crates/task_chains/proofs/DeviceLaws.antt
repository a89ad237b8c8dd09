-- The number of the plan's peripherals and of ranges that answer as peripherals.
use Rattle.std.proofs.Common.{◌≡◌, ◌+◌, List, ◌++◌, length, map, arith}
use Rattle.std.proofs.lemmas.List.{length-append, length-map}
use Rattle.tcd_base.specs.declared.range.Range.{Range}
use Rattle.tcd_plan.specs.declared.plans.Device.{Device}
use Rattle.task_chains.specs.Devices.{any_word_device}

pub length-devices : (ds : List Device) (rs : List Range) → length (ds ++ map any_word_device rs) ≡ length ds + length rs
length-devices ds rs = omega (arith, length-append ds (map any_word_device rs), length-map rs any_word_device)
