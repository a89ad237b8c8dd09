use Rattle.std.proofs.Common.{◌≡◌, drop}
use Rattle.tc_script.specs.Ports.{device_answer_at}
use Rattle.tc_script.proofs.ports.device_answer_at.Given as goal

abbrev pub invariant-loop-i : goal.invariant-loop-i
invariant-loop-i l = device_answer_at (drop l.i l.devices) (drop l.i l.script.bounds) l.addr l.t ≡ device_answer_at l.devices l.script.bounds l.addr l.t
