use Rattle.std.proofs.Common.{◌≡◌, ◌≤◌, length, take, filter, nat_lt}
use Rattle.cfg_recover.proofs.flow_interrupts.irqs_above.Given as goal

abbrev pub invariant-loop-p : goal.invariant-loop-p
invariant-loop-p l = (l.higher.items ≡ filter (λ p. nat_lt l.ccpn p) (take l.p-index l.irqs)) × (length l.higher.items ≤ l.p-index)
