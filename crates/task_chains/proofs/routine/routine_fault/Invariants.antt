use Rattle.std.proofs.Common.{◌<◌, ◌≤◌, ◌-◌, ℕ}
use Rattle.task_chains.specs.SwitchRoutine.{HasRoutineByte}
use Rattle.task_chains.proofs.routine.routine_fault.Given as goal

-- the image has the bytes so far
abbrev pub invariant-loop-i : goal.invariant-loop-i
invariant-loop-i l = (l.i ≤ 72) × ((j : ℕ) → j < l.i → HasRoutineByte l.image l.plan l.tasks j)

abbrev pub decreases-loop-i : goal.decreases-loop-i
decreases-loop-i l = 72 - l.i
