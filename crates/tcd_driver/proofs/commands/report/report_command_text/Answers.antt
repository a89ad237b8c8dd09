use Rattle.std.proofs.Common.{◌≡◌, string_bytes, sym, ap, subst}
use Rattle.tcd_report.specs.Reports.{IsReport}
use Rattle.tcd_driver.proofs.commands.report.report_command_text.Goals as goal

pub returns : goal.returns
returns c =
    let same : c.into_bytes.result.items ≡ string_bytes c.in_ok-report.field-0 = ap (λ v. v.items) c.into_bytes.ensures.value in
    subst (IsReport c.args.image.now c.args.plan.now c.args.cert.now) (sym same) c.in_ok-report.ensures
