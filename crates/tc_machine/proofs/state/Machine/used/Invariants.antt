use Rattle.std.proofs.Common.{◌≡◌, ◌-◌, ◌≤◌}
use Rattle.tc_machine.proofs.Counted.{counted}
use Rattle.tc_machine.proofs.state.Machine.used.Given as goal

abbrev pub invariant-loop-word : goal.invariant-loop-word
invariant-loop-word l = record { few : l.count ≤ 4096; same : counted (4096 - l.count) l.count l.self.mem l.word ≡ counted 4096 0 l.self.mem l.self.pcxi }

abbrev pub decreases-loop-word : goal.decreases-loop-word
decreases-loop-word l = 4096 - l.count
