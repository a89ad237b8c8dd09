use Rattle.std.proofs.Common.{Err, ap, ◌∙◌}
use Rattle.tcd_plan.specs.PlanData.{plan_data}
use Rattle.tcd_reading.specs.Reports.{report_with_file}
use Rattle.tcd_driver.specs.BestCert.{IsBestCertOrErr}
use Rattle.tcd_driver.specs.Cert.{IsCertReport, refused}
use Rattle.tcd_driver.proofs.MakingLaws.{certifying_report, unmade}
use Rattle.tcd_driver.proofs.commands.cert.certify_image.Goals as goal

pub returns-in_ok-report_with_file-in-Ok : goal.returns-in_ok-report_with_file-in-Ok
returns-in_ok-report_with_file-in-Ok c =
    certifying_report _ c.args.image.now (plan_data c.plan.inside) c.args.plan.now _ c.in-Ok.need _ _ c.plan.view_is c.in-Ok.ensures c.into_bytes.ensures
    (c.in_ok-report_with_file-in-Ok.ensures ∙ ap (λ t. report_with_file c.args.name.now c.into_bytes.result.items t) c.in_ok-line-in-Ok.ensures)

pub returns-in-Err : goal.returns-in-Err
returns-in-Err c =
    unmade (IsCertReport c.args.name.now c.args.image.now c.args.plan.now) (λ e. IsBestCertOrErr c.args.image.now c.args.plan.now (Err e)) c.in-Err.e _ c.in-Err.ensures c.report_no_cert.ensures
    (λ rule key addr r why e. refused rule key addr why e)
