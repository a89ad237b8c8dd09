use Rattle.std.proofs.Common.{◌-◌, ◌%◌, IsTrue, subst, ◌==◌}
use Rattle.task_chains.specs.Tasks.{TasksData, tasks_data}
use Rattle.task_chains.specs.SwitchRoutine.{IsRoutineInstruction}
use Rattle.task_chains.proofs.ApartLaws.{step_within}
use Rattle.task_chains.proofs.routine.is_routine_instruction.Goals as goal

pub returns-then-offset-lt-ROUTINE_BYTES : goal.returns-then-offset-lt-ROUTINE_BYTES
returns-then-offset-lt-ROUTINE_BYTES c =
    let p = c.args.addr in
    let from = c.tasks.inside.switch in
    subst (λ (t : TasksData). (IsTrue ((p - from) % 4 == 0) → IsRoutineInstruction t p) × (IsRoutineInstruction t p → IsTrue ((p - from) % 4 == 0))) c.tasks.view_is
    (step_within (tasks_data c.tasks.inside) p c.if-addr-tasks.false c.if-offset-lt-ROUTINE_BYTES.true)
