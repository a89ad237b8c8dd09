use Rattle.tcd_driver.proofs.TasksReports.{AreTallied}
use Rattle.tcd_driver.proofs.commands.tasks.check_each_task_cert.Given as goal

abbrev pub invariant-loop-u : goal.invariant-loop-u
invariant-loop-u l = AreTallied l.image l.plan l.tasks l.certs l.u l.sum
