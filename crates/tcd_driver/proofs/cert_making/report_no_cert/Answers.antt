use Rattle.std.proofs.Common.{sym, subst, ap, ◌∙◌}
use Rattle.tcd_reading.specs.Reports.{text_report}
use Rattle.tcd_reading.specs.declared.status.Status.TheVariants.{Refused}
use Rattle.tcd_driver.specs.BestCert.{IsNoCertReport}
use Rattle.tcd_driver.proofs.cert_making.report_no_cert.Goals as goal

pub returns-in_ok-line-in-Refused : goal.returns-in_ok-line-in-Refused
returns-in_ok-line-in-Refused c =
    subst (λ e. IsNoCertReport e c.of.result) (sym c.in-Refused.is) (c.of.ensures ∙ ap (λ t. text_report Refused t) c.in_ok-line-in-Refused.ensures)
