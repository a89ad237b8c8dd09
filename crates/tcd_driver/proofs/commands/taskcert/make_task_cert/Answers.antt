use Rattle.tcd_driver.proofs.TaskcertReports.{makes_task}
use Rattle.tcd_driver.proofs.commands.taskcert.make_task_cert.Goals as goal

pub returns : goal.returns
returns c =
    makes_task c.args.image.now _ c.args.plan.now _ c.args.tasks.now c.args.u _ _ c.make_task_view_cert.result c.plan.view_is c.plan.invariant c.tasks.view_is c.tasks.invariant c.requires.fit c.requires.task
    c.in_ok-view.ensures c.view_plan.ensures c.make_task_view_cert.ensures
