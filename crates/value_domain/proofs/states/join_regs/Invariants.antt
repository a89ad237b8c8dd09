use Rattle.std.proofs.Common.{◌≡◌, ◌≤◌, ℕ, take, length, get_or}
use Rattle.value_domain.specs.State.{joined_regs}
use Rattle.value_domain.specs.Values.{any_val}
use Rattle.value_domain.proofs.states.join_regs.Given as goal

abbrev pub invariant-loop-i : goal.invariant-loop-i
invariant-loop-i l = record {
  done : take l.i l.out ≡ take l.i (joined_regs l.b l.s l.t);
  left : (k : ℕ) → l.i ≤ k → get_or l.out k any_val ≡ get_or l.s k any_val;
  len : length l.out ≡ 27;
}
