use Rattle.std.proofs.Common.{◌≡◌, ◌++◌, ◌-◌, ◌≤◌, take, length, replicate}
use Rattle.value_domain.specs.Values.{any_val}
use Rattle.small_states.proofs.values.write_unknowns.Given as goal

abbrev pub invariant-loop-i : goal.invariant-loop-i
invariant-loop-i l = (take l.i l.out ≡ take l.from l.initial.out ++ replicate (l.i - l.from) any_val) × (l.from ≤ l.i) × (length l.out ≡ 27)
