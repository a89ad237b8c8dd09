use Rattle.std.proofs.Common.{◌∙◌, List, length, refl, ap, subst}
use Rattle.tcd_plan.specs.PlanData.{PlanData, plan_data}
use Rattle.tc_machine.specs.Safe.{Safe}
use Rattle.cfg_recover.specs.RulesHoldOrFail.{Accepts, IsFirstFault, certified_need}
use Rattle.value_cells.specs.declared.cells.Cell.{Cell}
use Rattle.tcd_reading.specs.Reports.{text_report}
use Rattle.tcd_driver.specs.Cells.{refused, broken}
use Rattle.tcd_reading.specs.declared.status.Status.TheVariants.{Done, Refused}
use Rattle.tcd_driver.proofs.CellsReports.{cells_report}
use Rattle.tcd_driver.proofs.commands.cells.cells_verdict.Goals as goal

pub returns-in_ok-line-in-Some : goal.returns-in_ok-line-in-Some
returns-in_ok-line-in-Some c =
    broken _ _ (subst (λ (q : PlanData). Accepts c.args.image.now q c.args.cert.now) c.with_cells.ensures c.in-Yes.ensures.judges.0) c.in-Some.ensures.some
    (c.of.ensures ∙ ap (λ t. text_report Refused t) c.in_ok-line-in-Some.ensures)

pub returns-in_ok-line-in-None : goal.returns-in_ok-line-in-None
returns-in_ok-line-in-None c =
    cells_report c.args.image.now (plan_data c.plan.inside) c.args.plan.now c.args.cells.now _ c.args.cert.now c.in-Yes.need _ _ c.plan.view_is c.plan.invariant c.requires refl c.version-version.ensures.limits
    (subst (λ (q : PlanData). Accepts c.args.image.now q c.args.cert.now) c.with_cells.ensures c.in-Yes.ensures.judges.0)
    (c.in-Yes.ensures.judges.1 ∙ ap (λ (q : PlanData). certified_need c.args.image.now q c.args.cert.now) c.with_cells.ensures)
    (subst (λ (q : PlanData). Safe c.args.image.now q c.in-Yes.need) c.with_cells.ensures c.in-Yes.ensures.safe) c.in-None.ensures.none
    (ap (λ (l : List Cell). length l) c.list-count.ensures)
    (c.of-in-None.ensures ∙ ap (λ t. text_report Done t) c.in_ok-line-in-None.ensures)

pub returns-in_ok-line-in-No : goal.returns-in_ok-line-in-No
returns-in_ok-line-in-No c =
    refused c.in-No.rule c.in-No.key c.in-No.addr
    (subst (λ (q : PlanData). IsFirstFault c.args.image.now q c.args.cert.now c.in-No.rule c.in-No.key c.in-No.addr) c.with_cells.ensures c.in-No.ensures.judges)
    (c.of-in-No.ensures ∙ ap (λ t. text_report Refused t) c.in_ok-line-in-No.ensures)
