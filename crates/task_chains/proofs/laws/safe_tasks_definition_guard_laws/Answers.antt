use Rattle.task_chains.proofs.SafeWords.{safe_tasks_say, parts_are_safe}
use Rattle.task_chains.proofs.laws.safe_tasks_definition_guard_laws.Goals as goal

pub returns-clause-says : goal.returns-clause-says
returns-clause-says c = safe_tasks_say

pub returns-clause-parts : goal.returns-clause-parts
returns-clause-parts c = parts_are_safe
