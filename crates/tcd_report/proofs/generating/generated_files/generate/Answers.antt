use Rattle.std.proofs.Common.{◌≡◌, ◌∙◌, List, ℕ, Ok, sym, subst}
use Rattle.std.specs.Prelude.{IsUtf8}
use Rattle.tcd_plan.specs.PlanReader.{GivesPlan}
use Rattle.tcd_report.specs.Generated.Planned.{generated_plan, generated_plan_text}
use Rattle.tcd_report.proofs.ImageLemmas.PlanText.{text_tells}
use Rattle.tcd_report.proofs.generating.generated_files.generate.Goals as goal

pub returns-clause-plan : goal.returns-clause-plan
returns-clause-plan c =
    let is : c.in_ok-plan.plan.items ≡ generated_plan_text = c.in_ok-plan.ensures.items ∙ c.as_bytes.ensures.value ∙ c.generated_plan_text.ensures in
    subst (λ (bs : List ℕ). GivesPlan bs (Ok generated_plan)) (sym is) (text_tells (subst IsUtf8 c.generated_plan_text.ensures c.generated_plan_text.utf8))
