use Rattle.std.proofs.Common.{ap, ◌∙◌}
use Rattle.tcd_plan.specs.PlanData.{plan_data}
use Rattle.depth_maker.specs.Answers.{IsRightMakeErr}
use Rattle.tcd_reading.specs.Reports.{text_report}
use Rattle.tcd_driver.specs.Gen.{IsGenReport, refused}
use Rattle.tcd_reading.specs.declared.status.Status.TheVariants.{Done}
use Rattle.tcd_driver.proofs.GenReports.{counted_report}
use Rattle.tcd_driver.proofs.MakingLaws.{unmade}
use Rattle.tcd_driver.proofs.commands.generating.report_generated_image.Goals as goal

pub returns-in_ok-line-in-Ok : goal.returns-in_ok-line-in-Ok
returns-in_ok-line-in-Ok c =
    counted_report c.args.functions c.args.image.now (plan_data c.plan.inside) c.args.plan.now _ c.in-Ok.need _ c.plan.view_is c.in-Ok.ensures
    (c.of.ensures ∙ ap (λ t. text_report Done t) c.in_ok-line-in-Ok.ensures)

pub returns-in-Err : goal.returns-in-Err
returns-in-Err c =
    unmade (IsGenReport c.args.functions c.args.image.now c.args.plan.now) (IsRightMakeErr c.args.image.now c.args.plan.now 1) c.in-Err.e _ c.in-Err.ensures c.report_no_cert.ensures
    (λ rule key addr r why e. refused rule key addr why.1 why.0 e)
