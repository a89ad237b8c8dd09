use Rattle.std.proofs.Common.{arith, length, ap, ◌∙◌}
use Rattle.std.specs.Prelude.{map, string_bytes}
use Rattle.tcd_plan.specs.PlanData.{plan_data}
use Rattle.task_chains.specs.Tasks.{TasksData}
use Rattle.tcd_reading.specs.Reports.{text_report, report_with_files}
use Rattle.tcd_driver.specs.Taskcert.{no_switch, refused}
use Rattle.tcd_reading.specs.declared.status.Status.TheVariants.{Refused}
use Rattle.tcd_driver.proofs.TaskcertReports.{written_tasks, above_made}
use Rattle.tcd_driver.proofs.commands.taskcert.taskcert_report.Goals as goal

pub returns-in-Some : goal.returns-in-Some
returns-in-Some c =
    no_switch c.in-Some.addr c.in-Some.ensures.some (c.of.ensures ∙ ap (λ t. text_report Refused t) c.in_ok-refused_switch_line.ensures)

pub returns-in_ok-line-in-Ok : goal.returns-in_ok-line-in-Ok
returns-in_ok-line-in-Ok c =
    written_tasks (map string_bytes c.args.names.now) c.args.image.now (plan_data c.plan.inside) c.args.plan.now _ c.args.tasks.now c.in-Ok.writes.items c.in-Ok.sum c.len-count.result _
    c.plan.view_is c.plan.invariant c.tasks.view_is c.tasks.invariant c.requires.fit c.in_default.ensures.none c.in-Ok.ensures
    (let le = c.if-sum-from.true in let is = c.from.ensures in omega arith)
    (c.len-count.ensures.value ∙ ap (λ (t : TasksData). length t.list) c.tasks.view_is)
    (ap (λ t. report_with_files c.in-Ok.writes.items t) c.in_ok-line-in-Ok.ensures)

pub returns-in_ok-refused_sum_line-in-Ok : goal.returns-in_ok-refused_sum_line-in-Ok
returns-in_ok-refused_sum_line-in-Ok c =
    above_made (map string_bytes c.args.names.now) c.args.image.now (plan_data c.plan.inside) c.args.plan.now c.args.tasks.now c.in-Ok.writes.items c.in-Ok.sum _
    c.plan.view_is c.in_default.ensures.none c.in-Ok.ensures
    (let not = c.if-sum-from.false in let is = c.from.ensures in omega arith)
    (c.of-else-sum-from.ensures ∙ ap (λ t. text_report Refused t) c.in_ok-refused_sum_line-in-Ok.ensures)

pub returns-in_ok-line-in-Err-default-Refused : goal.returns-in_ok-line-in-Err-default-Refused
returns-in_ok-line-in-Err-default-Refused c =
    refused c.in-Err-default-Refused.task c.in-Err-default-Refused.rule c.in-Err-default-Refused.key c.in-Err-default-Refused.addr c.in_default.ensures.none (rw c.in-Err-default-Refused.field-0-1-is at c.in-Err-default-Refused.ensures)
    (c.of-in-Err-default-Refused.ensures ∙ ap (λ t. text_report Refused t) c.in_ok-line-in-Err-default-Refused.ensures)
