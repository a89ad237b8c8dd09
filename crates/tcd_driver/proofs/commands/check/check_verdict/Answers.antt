use Rattle.std.proofs.Common.{ap, ◌∙◌}
use Rattle.tcd_plan.specs.PlanData.{plan_data}
use Rattle.tcd_reading.specs.Reports.{text_report}
use Rattle.tcd_driver.specs.Check.{refused}
use Rattle.tcd_reading.specs.declared.status.Status.TheVariants.{Done, Refused}
use Rattle.tcd_driver.proofs.CommandLaws.{certified_report}
use Rattle.tcd_driver.proofs.commands.check.check_verdict.Goals as goal

pub returns-in_ok-line-in-Yes : goal.returns-in_ok-line-in-Yes
returns-in_ok-line-in-Yes c =
    certified_report _ (plan_data c.plan.inside) _ _ c.in-Yes.need _ c.plan.view_is c.in-Yes.ensures.judges.0 c.in-Yes.ensures.judges.1 c.in-Yes.ensures.safe
    (c.of.ensures ∙ ap (λ t. text_report Done t) c.in_ok-line-in-Yes.ensures)

pub returns-in_ok-line-in-No : goal.returns-in_ok-line-in-No
returns-in_ok-line-in-No c =
    refused c.in-No.rule c.in-No.key c.in-No.addr c.in-No.ensures.judges (c.of-in-No.ensures ∙ ap (λ t. text_report Refused t) c.in_ok-line-in-No.ensures)
