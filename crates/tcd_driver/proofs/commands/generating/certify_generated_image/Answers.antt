use Rattle.std.proofs.Common.{Ok, subst, arith}
use Rattle.elf_image.specs.Images.{ImageData}
use Rattle.tcd_plan.specs.PlanData.{PlanData}
use Rattle.tcd_plan.specs.PlanReader.{GivesPlan}
use Rattle.tcd_report.specs.Generated.Planned.{generated_plan}
use Rattle.tcd_reading.specs.Outcomes.{IsReportOutcome}
use Rattle.tcd_forms.proofs.FormLaws.{plan_lawful}
use Rattle.tcd_driver.specs.Gen.{IsGenReport}
use Rattle.tcd_driver.proofs.GenReports.{text_gives, text_most}
use Rattle.tcd_driver.proofs.commands.generating.certify_generated_image.Goals as goal

pub read-requires : goal.read-requires
read-requires c = text_most _ _ c.as_bytes.ensures.value c.generated_plan_text.ensures

pub assert_plan_out_of_memory-requires : goal.assert_plan_out_of_memory-requires
assert_plan_out_of_memory-requires c =
    let gives : GivesPlan c.as_bytes.result.now (Ok generated_plan) = text_gives _ _ c.as_bytes.ensures.value c.generated_plan_text.ensures c.generated_plan_text.utf8 in
    grind arith

pub returns-in-Ok : goal.returns-in-Ok
returns-in-Ok c =
    subst (λ (i : ImageData). IsReportOutcome (IsGenReport c.args.functions i generated_plan) ⊥ c.report_generated_image.result) c.in_ok-image.ensures
    (subst (λ (p : PlanData). IsReportOutcome (IsGenReport c.args.functions c.in_ok-image.image p) ⊥ c.report_generated_image.result)
    (plan_lawful.one c.as_bytes.result.now _ _ c.in-Ok.ensures.answer (text_gives _ _ c.as_bytes.ensures.value c.generated_plan_text.ensures c.generated_plan_text.utf8)) c.report_generated_image.ensures)
