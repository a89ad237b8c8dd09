use Rattle.tcd_driver.specs.Taskcert.{IsTaskViewCertOrErr}
use Rattle.tcd_reading.proofs.Told.{passed_on}
use Rattle.tcd_driver.proofs.TaskcertReports.{apart_fails, unmade_view}
use Rattle.tcd_driver.proofs.commands.taskcert.make_task_view_cert.Goals as goal

pub task_fault-requires : goal.task_fault-requires
task_fault-requires c = ((c.in_ok-cert.ensures).made).accepted

pub returns-in-Some : goal.returns-in-Some
returns-in-Some c =
    apart_fails c.args.view.now _ c.args.plan.now c.args.tasks.now _ _ c.in-Some.key c.in-Some.addr c.plan.view_is c.plan.invariant c.in_ok-cert.ensures c.in-Some.ensures.some

pub returns-in-None : goal.returns-in-None
returns-in-None c = (c.in_ok-cert.ensures, c.in-None.ensures.none)

pub returns-in_err-cert : goal.returns-in_err-cert
returns-in_err-cert c =
    passed_on (IsTaskViewCertOrErr c.args.view.now c.args.plan.now c.args.tasks.now) c.from_residual.result _ c.from_residual.ensures.1 (unmade_view c.args.view.now c.args.plan.now c.args.tasks.now _ c.in_err-cert.ensures)
