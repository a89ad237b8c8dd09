use Rattle.std.proofs.Common.{arith, below_more}
use Rattle.task_chains.proofs.routine.routine_fault.Goals as goal

pub loop-i-preserved : goal.loop-i-preserved
loop-i-preserved c = (let lt = c.loop-i-test.true in omega arith, below_more _ _ c.loop-i.invariant.1 (c.has_routine_byte.ensures.0 c.if-not-has_routine_byte.false))
