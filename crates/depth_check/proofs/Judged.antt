-- What a yes promises.
use Rattle.std.proofs.Common.{◌≡◌, sym, subst}
use Rattle.elf_image.specs.Images.{ImageData}
use Rattle.tcd_plan.specs.PlanData.{PlanData, IsPlan}
use Rattle.tc_machine.specs.Safe.{Safe}
use Rattle.depth_cert.specs.Certs.{CertData, IsCert}
use Rattle.depth_check.specs.declared.verdicts.Verdict.{Verdict}
use Rattle.depth_check.specs.declared.verdicts.Verdict.TheVariants.{Yes, No}
use Rattle.depth_check.specs.CheckAnswers.{IsCheckAnswer, IfAnswerIsYes}
use Rattle.depth_check.proofs.Sound.{accepted_is_safe}

-- for a plan and a certificate with their invariants
pub judged_is_safe : (image : ImageData) (plan fields : PlanData) (cert parts : CertData) (v : Verdict) → fields ≡ plan → IsPlan fields → parts ≡ cert → IsCert parts → IsCheckAnswer image plan cert v → IfAnswerIsYes v (Safe image plan)
judged_is_safe image plan fields cert parts (Yes n) e ok f is judges =
    subst (Safe image plan) (sym judges.1) (accepted_is_safe image plan cert (subst IsPlan e ok) (subst IsCert f is) judges.0)
judged_is_safe image plan fields cert parts (No rule key addr) e ok f is judges = tt
