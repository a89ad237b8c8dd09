use Rattle.task_chains.proofs.ViewBytes.{IsWrittenSoFar}
use Rattle.task_chains.proofs.views.write_view_routine.Given as goal

-- the bytes of the routine so far are written
abbrev pub invariant-loop-i : goal.invariant-loop-i
invariant-loop-i l = IsWrittenSoFar l.tasks l.at l.i l.initial.bytes l.bytes
