use Rattle.task_chains.proofs.ReadingLaws.{words_more}
use Rattle.task_chains.proofs.task_lists.Tasks.establish_tasks_fit_words.Goals as goal

pub loop-task-preserved : goal.loop-task-preserved
loop-task-preserved c = words_more c.args.list.now c.loop-task.task-index _ c.loop-task-test.true c.loop-task.invariant c.establish_task_fits_words.ensures
