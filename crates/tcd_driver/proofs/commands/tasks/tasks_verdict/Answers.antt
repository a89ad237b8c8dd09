use Rattle.std.proofs.Common.{arith, length, ap, ◌∙◌}
use Rattle.tcd_plan.specs.PlanData.{plan_data}
use Rattle.task_chains.specs.Tasks.{TasksData}
use Rattle.tcd_reading.specs.Reports.{text_report}
use Rattle.tcd_driver.specs.Tasks.{no_switch, refused}
use Rattle.tcd_reading.specs.declared.status.Status.TheVariants.{Done, Refused}
use Rattle.tcd_driver.proofs.TasksReports.{certified_tasks}
use Rattle.tcd_driver.proofs.commands.tasks.tasks_verdict.Goals as goal

pub returns-in-Some : goal.returns-in-Some
returns-in-Some c =
    no_switch c.in-Some.addr c.in-Some.ensures.some (c.of.ensures ∙ ap (λ t. text_report Refused t) c.in_ok-refused_switch_line.ensures)

pub returns-in_ok-line-in-Sum : goal.returns-in_ok-line-in-Sum
returns-in_ok-line-in-Sum c =
    certified_tasks c.args.image.now (plan_data c.plan.inside) c.args.plan.now _ c.args.tasks.now c.args.certs.now c.in-Sum.sum c.len-count.result _
    c.plan.view_is c.plan.invariant c.tasks.view_is c.tasks.invariant c.requires.fit c.in_default.ensures.none
    (rw c.in-Sum.is at c.in_ok-sum.ensures).0 (rw c.in-Sum.is at c.in_ok-sum.ensures).1
    (let le = c.if-sum-from.true in let is = c.from.ensures in omega arith)
    (c.len-count.ensures.value ∙ ap (λ (t : TasksData). length t.list) c.tasks.view_is)
    (c.of-then-sum-from.ensures ∙ ap (λ t. text_report Done t) c.in_ok-line-in-Sum.ensures)

pub returns-in_ok-line-in-Against : goal.returns-in_ok-line-in-Against
returns-in_ok-line-in-Against c =
    refused c.in-Against.task c.in-Against.rule c.in-Against.key c.in-Against.addr c.in_default.ensures.none (rw c.in-Against.is at c.in_ok-sum.ensures)
    (c.of-in-Against.ensures ∙ ap (λ t. text_report Refused t) c.in_ok-line-in-Against.ensures)
