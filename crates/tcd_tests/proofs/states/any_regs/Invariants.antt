use Rattle.std.proofs.Common.{◌≡◌, take, replicate, length}
use Rattle.value_domain.specs.Values.{any_val}
use Rattle.tcd_tests.proofs.states.any_regs.Given as goal

abbrev pub invariant-loop-i : goal.invariant-loop-i
invariant-loop-i l = (take l.i l.regs ≡ replicate l.i any_val) × (length l.regs ≡ 27)
