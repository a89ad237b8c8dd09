use Rattle.std.proofs.Common.{refl}
use Rattle.tcd_driver.proofs.TasksReports.{first_there, fault_there, judged_well}
use Rattle.tcd_driver.proofs.commands.tasks.check_task_cert.Goals as goal

pub returns-in-Some : goal.returns-in-Some
returns-in-Some c =
    fault_there c.args.image.now c.args.plan.now c.args.tasks.now c.args.cert.now c.args.u c.in-Some.key c.in-Some.addr _ _ c.in_ok-view.ensures c.view_plan-board.ensures c.in-Yes.ensures.judges.0 c.in-Some.ensures.some

pub returns-in-Yes : goal.returns-in-Yes
returns-in-Yes c =
    judged_well c.args.image.now _ c.args.plan.now _ c.args.tasks.now _ c.args.cert.now c.args.u c.in-Yes.need _ _ c.plan.view_is c.plan.invariant c.tasks.view_is c.tasks.invariant refl c.version-version.ensures.limits
    c.requires.fit c.requires.task c.in_ok-view.ensures c.view_plan-board.ensures c.in-Yes.ensures.judges.0 c.in-Yes.ensures.judges.1 c.in-Yes.ensures.safe c.in-None.ensures.none

pub returns : goal.returns
returns c =
    first_there c.args.image.now c.args.plan.now c.args.tasks.now c.args.cert.now c.args.u c.in-No.rule c.in-No.key c.in-No.addr _ _ c.in_ok-view.ensures c.view_plan-board.ensures c.in-No.ensures.judges
