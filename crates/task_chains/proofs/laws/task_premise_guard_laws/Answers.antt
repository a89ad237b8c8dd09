use Rattle.task_chains.proofs.ReadOne.{reads_one}
use Rattle.task_chains.proofs.GuardLaws.{every_ready, every_fit, every_tasks_start}
use Rattle.task_chains.proofs.laws.task_premise_guard_laws.Goals as goal

pub returns-clause-ready : goal.returns-clause-ready
returns-clause-ready c = every_ready

pub returns-clause-fits : goal.returns-clause-fits
returns-clause-fits c = every_fit

pub returns-clause-starts : goal.returns-clause-starts
returns-clause-starts c = every_tasks_start

pub returns-clause-one : goal.returns-clause-one
returns-clause-one c = reads_one
