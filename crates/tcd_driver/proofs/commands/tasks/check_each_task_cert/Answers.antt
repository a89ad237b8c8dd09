use Rattle.std.proofs.Common.{arith, subst, ◌∙◌}
use Rattle.tcd_driver.specs.Tasks.{IsVerdictOnTask}
use Rattle.tcd_driver.proofs.TasksReports.{cert_here, next_tallied}
use Rattle.tcd_driver.proofs.commands.tasks.check_each_task_cert.Goals as goal

pub loop-u-preserved : goal.loop-u-preserved
loop-u-preserved c =
    next_tallied c.args.image.now c.args.plan.now c.args.tasks.now c.args.certs.now c.index-certs-u.result c.loop-u.u c.loop-u.sum c.in-Yes.need c.from-sum.result
    (cert_here c.args.certs.now c.loop-u.u c.index-certs-u.result (omega arith) c.index-certs-u.is) (omega arith) c.loop-u.invariant
    (subst (λ v. IsVerdictOnTask c.args.image.now c.args.plan.now c.args.tasks.now c.index-certs-u.result c.loop-u.u v) c.in-Yes.is c.in_ok-need.ensures)
    (c.from-sum.ensures ∙ c.counted_task_need.ensures)
