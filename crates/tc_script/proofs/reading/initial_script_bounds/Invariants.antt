use Rattle.std.proofs.Common.{◌≡◌, map, take}
use Rattle.tc_script.specs.Ports.{initial_answer_bounds}
use Rattle.tc_script.proofs.reading.initial_script_bounds.Given as goal

abbrev pub invariant-loop-device : goal.invariant-loop-device
invariant-loop-device l = l.bounds.items ≡ map initial_answer_bounds (take l.device-index l.devices)
