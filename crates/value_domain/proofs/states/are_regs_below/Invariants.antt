use Rattle.std.proofs.Common.{ℕ, ◌<◌, get_or}
use Rattle.value_domain.specs.Values.{IsBelow, any_val}
use Rattle.value_domain.proofs.states.are_regs_below.Given as goal

abbrev pub invariant-loop-i : goal.invariant-loop-i
invariant-loop-i l = (r : ℕ) → r < l.i → IsBelow (get_or l.low r any_val) (get_or l.high r any_val)
