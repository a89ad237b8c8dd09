use Rattle.std.proofs.Common.{subst, ap, ◌∙◌}
use Rattle.tc_machine.specs.Safe.{Safe}
use Rattle.tcd_reading.specs.Reports.{text_report}
use Rattle.tcd_driver.specs.Reporting.{refused, reported}
use Rattle.tcd_reading.specs.declared.status.Status.TheVariants.{Refused}
use Rattle.tcd_driver.proofs.commands.report.check_and_report.Goals as goal

pub report_command_text-requires : goal.report_command_text-requires
report_command_text-requires c = c.in-Yes.ensures.judges.0

pub returns-in_ok-text-in-Yes : goal.returns-in_ok-text-in-Yes
returns-in_ok-text-in-Yes c =
    reported _ c.in-Yes.ensures.judges.0 (subst (λ n. Safe c.args.image.now c.args.plan.now n) c.in-Yes.ensures.judges.1 c.in-Yes.ensures.safe) c.in_ok-text-in-Yes.ensures c.of.ensures

pub returns-in_ok-line-in-No : goal.returns-in_ok-line-in-No
returns-in_ok-line-in-No c =
    refused c.in-No.rule c.in-No.key c.in-No.addr c.in-No.ensures.judges (c.of-in-No.ensures ∙ ap (λ t. text_report Refused t) c.in_ok-line-in-No.ensures)
