use Rattle.std.proofs.Common.{Err, ap, ◌∙◌}
use Rattle.tcd_plan.specs.PlanData.{plan_data}
use Rattle.tcd_reading.specs.Reports.{report_with_two_files}
use Rattle.tcd_driver.specs.BestCert.{IsBestCertOrErr}
use Rattle.tcd_driver.specs.Ship.{IsShipReportOnImage, refused}
use Rattle.tcd_driver.proofs.MakingLaws.{unmade}
use Rattle.tcd_driver.proofs.ShipReports.{shipping_report}
use Rattle.tcd_driver.proofs.commands.ship.ship_image.Goals as goal

pub returns-in_ok-report_with_two_files-in-Ok-make_best_cert : goal.returns-in_ok-report_with_two_files-in-Ok-make_best_cert
returns-in_ok-report_with_two_files-in-Ok-make_best_cert c =
    shipping_report _ _ _ _ c.args.image.now (plan_data c.plan.inside) c.args.plan.now _ c.in-Ok-make_best_cert.need _ _ _ c.plan.view_is c.in-Ok.ensures.bytes c.in-Ok.ensures.again c.in-Ok-make_best_cert.ensures
    c.into_bytes.ensures c.in_ok-first-in-Ok-make_best_cert.ensures.0 c.in_ok-first-in-Ok-make_best_cert.ensures.1
    (c.in_ok-report_with_two_files-in-Ok-make_best_cert.ensures ∙ ap (λ t. report_with_two_files c.in_ok-first-in-Ok-make_best_cert.first c.in_ok-first-in-Ok-make_best_cert.second t) c.in_ok-line-in-Ok-make_best_cert.ensures)

pub returns-in-Err-make_best_cert : goal.returns-in-Err-make_best_cert
returns-in-Err-make_best_cert c =
    unmade (IsShipReportOnImage c.args.names.now.elf.now c.args.names.now.cert.now c.args.plan.now c.args.image.now) (λ e. IsBestCertOrErr c.args.image.now c.args.plan.now (Err e)) c.in-Err-make_best_cert.e _ c.in-Err-make_best_cert.ensures c.report_no_cert.ensures
    (λ rule key addr r why e. refused rule key addr why e)
