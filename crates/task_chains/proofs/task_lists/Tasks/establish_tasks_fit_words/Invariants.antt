use Rattle.std.proofs.Common.{◌<◌, ◌^◌, ℕ, get_or}
use Rattle.task_chains.specs.declared.task_lists.Task.{Task}
use Rattle.task_chains.proofs.task_lists.Tasks.establish_tasks_fit_words.Given as goal

-- the numbers of the tasks so far are words
abbrev pub invariant-loop-task : goal.invariant-loop-task
invariant-loop-task l = (k : ℕ) (d : Task) → k < l.task-index → ((get_or l.list k d).entry < 2 ^ 32) × ((get_or l.list k d).sp < 2 ^ 32)
