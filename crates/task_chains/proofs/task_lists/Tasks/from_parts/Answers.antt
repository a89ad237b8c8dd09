use Rattle.task_chains.specs.TaskListText.{tasks_with}
use Rattle.task_chains.proofs.ReadingLaws.{against}
use Rattle.task_chains.proofs.task_lists.Tasks.from_parts.Goals as goal

pub returns-in-Some-clause-read : goal.returns-in-Some-clause-read
returns-in-Some-clause-read c = λ lines said.
    against c.args.plan.now lines (tasks_with c.args.places c.args.list.items) c.in-Some.fault said (c.in-Some.ensures.some lines)
