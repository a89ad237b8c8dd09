use Rattle.std.proofs.Common.{◌≡◌, take, length}
use Rattle.vd_transfer.specs.Changes.{state_after}
use Rattle.vd_transfer.proofs.built_states.regs_after_change.Given as goal

abbrev pub invariant-loop-i : goal.invariant-loop-i
invariant-loop-i l = (take l.i l.out ≡ take l.i (state_after l.s l.c).regs) × (length l.out ≡ 27)
