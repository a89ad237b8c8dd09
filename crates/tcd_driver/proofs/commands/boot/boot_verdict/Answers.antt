use Rattle.std.proofs.Common.{ap, ◌∙◌}
use Rattle.tcd_plan.specs.PlanData.{plan_data}
use Rattle.tcd_reading.specs.Reports.{text_report}
use Rattle.tcd_driver.specs.Boot.{refused, unbooted}
use Rattle.tcd_reading.specs.declared.status.Status.TheVariants.{Done, Refused}
use Rattle.tcd_driver.proofs.BootReports.{boots_report}
use Rattle.tcd_driver.proofs.commands.boot.boot_verdict.Goals as goal

pub returns-in_ok-line-in-Ok : goal.returns-in_ok-line-in-Ok
returns-in_ok-line-in-Ok c =
    boots_report _ c.args.image.now (plan_data c.plan.inside) c.args.plan.now c.args.cert.now c.args.at c.in-Ok.events c.in-Yes.need _ c.image.view_is c.image.invariant c.plan.view_is c.plan.invariant
    c.in-Yes.ensures.judges.0 c.in-Yes.ensures.judges.1 c.in-Yes.ensures.safe c.in-Ok.ensures.0 c.in-Ok.ensures.1 (c.of.ensures ∙ ap (λ t. text_report Done t) c.in_ok-line-in-Ok.ensures)

pub returns-in_ok-refused_boot_line-in-Err : goal.returns-in_ok-refused_boot_line-in-Err
returns-in_ok-refused_boot_line-in-Err c =
    unbooted c.in-Err.e c.in-Yes.ensures.judges.0 c.in-Err.ensures (c.of-in-Err.ensures ∙ ap (λ t. text_report Refused t) c.in_ok-refused_boot_line-in-Err.ensures)

pub returns-in_ok-line-in-No : goal.returns-in_ok-line-in-No
returns-in_ok-line-in-No c =
    refused c.in-No.rule c.in-No.key c.in-No.addr c.in-No.ensures.judges (c.of-in-No.ensures ∙ ap (λ t. text_report Refused t) c.in_ok-line-in-No.ensures)
