use Rattle.task_chains.proofs.Together.{tasks_are_safe}
use Rattle.task_chains.proofs.laws.safe_tasks_law.Goals as goal

pub returns : goal.returns
returns c = record { safe = tasks_are_safe }
