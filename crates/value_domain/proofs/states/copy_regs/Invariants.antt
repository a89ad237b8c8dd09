use Rattle.std.proofs.Common.{◌≡◌, take, length}
use Rattle.value_domain.proofs.states.copy_regs.Given as goal

abbrev pub invariant-loop-i : goal.invariant-loop-i
invariant-loop-i l = (take l.i l.copy ≡ take l.i l.regs) × (length l.copy ≡ 27)
