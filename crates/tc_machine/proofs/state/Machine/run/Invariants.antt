use Rattle.std.proofs.Common.{◌≡◌, drop}
use Rattle.tc_machine.specs.Stepping.{run}
use Rattle.tc_machine.proofs.state.Machine.run.Given as goal

abbrev pub invariant-loop-event : goal.invariant-loop-event
invariant-loop-event l = run l.self (drop l.event-index l.events) ≡ run l.fn.self l.events
