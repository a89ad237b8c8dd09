use Rattle.std.proofs.Common.{List, length, ap, subst, ◌∙◌}
use Rattle.tcd_plan.specs.PlanData.{PlanData, plan_data}
use Rattle.cfg_recover.specs.RulesHoldOrFail.{Accepts}
use Rattle.depth_maker.specs.Answers.{IsRightMakeErr}
use Rattle.value_cells.specs.declared.cells.Cell.{Cell}
use Rattle.value_cells.specs.Cells.{with_cells}
use Rattle.tcd_reading.specs.Reports.{text_report, report_with_file}
use Rattle.tcd_reading.specs.declared.status.Status.TheVariants.{Refused}
use Rattle.tcd_driver.specs.BestCert.{IsLeastWithNeed}
use Rattle.tcd_driver.specs.Cellcert.{IsCellcertReport, refused}
use Rattle.tcd_driver.proofs.CellcertReports.{broken_report, kept_report}
use Rattle.tcd_driver.proofs.MakingLaws.{unmade}
use Rattle.tcd_driver.proofs.commands.cellcert.make_cells_cert.Goals as goal

pub cells_fault-requires-clause-accepted : goal.cells_fault-requires-clause-accepted
cells_fault-requires-clause-accepted c = subst (λ (q : PlanData). Accepts c.args.image.now q c.in-Ok.cert) c.with_cells.ensures ((c.in-Ok.ensures).made).accepted

pub returns-in_ok-line-in-Some : goal.returns-in_ok-line-in-Some
returns-in_ok-line-in-Some c =
    broken_report c.args.name.now c.args.image.now (plan_data c.plan.inside) c.args.plan.now c.args.cells.now _ c.in-Ok.need c.plan.view_is c.plan.invariant c.requires
    (subst (λ (q : PlanData). IsLeastWithNeed c.args.image.now q 2 c.in-Ok.cert c.in-Ok.need) c.with_cells.ensures c.in-Ok.ensures) c.in-Some.key c.in-Some.addr _ c.in-Some.ensures.some
    (c.of.ensures ∙ ap (λ t. text_report Refused t) c.in_ok-line-in-Some.ensures)

pub returns-in_ok-report_with_file-in-None : goal.returns-in_ok-report_with_file-in-None
returns-in_ok-report_with_file-in-None c =
    kept_report c.args.name.now c.args.image.now (plan_data c.plan.inside) c.args.plan.now c.args.cells.now _ c.in-Ok.need c.plan.view_is c.plan.invariant c.requires
    (subst (λ (q : PlanData). IsLeastWithNeed c.args.image.now q 2 c.in-Ok.cert c.in-Ok.need) c.with_cells.ensures c.in-Ok.ensures) c.into_bytes.result.items _ _ c.into_bytes.ensures c.in-None.ensures.none
    (ap (λ (l : List Cell). length l) c.list-count.ensures)
    (c.in_ok-report_with_file-in-None.ensures ∙ ap (λ t. report_with_file c.args.name.now c.into_bytes.result.items t) c.in_ok-line-in-None.ensures)

pub returns-in-Err : goal.returns-in-Err
returns-in-Err c =
    unmade (IsCellcertReport c.args.name.now c.args.image.now c.args.plan.now c.args.cells.now) (IsRightMakeErr c.args.image.now (with_cells c.args.plan.now c.args.cells.now) 2) c.in-Err.e _
    (subst (λ (q : PlanData). IsRightMakeErr c.args.image.now q 2 c.in-Err.e) c.with_cells.ensures c.in-Err.ensures) c.report_no_cert.ensures
    (λ rule key addr r why e. refused rule key addr why.1 why.0 e)
