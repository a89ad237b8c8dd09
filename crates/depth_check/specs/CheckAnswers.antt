-- The answer of a check.
use Rattle.std.specs.Prelude.{◌≡◌, ◌-◌, ◌≤◌, ℕ}
use Rattle.elf_image.specs.Images.{ImageData}
use Rattle.tcd_plan.specs.PlanData.{PlanData}
use Rattle.depth_cert.specs.Certs.{CertData}
use Rattle.cfg_recover.specs.RulesHoldOrFail.{Accepts, IsFirstFault, certified_need}
use Rattle.depth_check.specs.declared.verdicts.Verdict.{Verdict}
use Rattle.depth_check.specs.declared.verdicts.Verdict.TheVariants.{Yes, No}

-- a yes: the rules accept the certificate, and n is the start's need, within the areas without the
-- reserve; a no: the first fault
abbrev pub IsCheckAnswer : ImageData → PlanData → CertData → Verdict → Type 0
IsCheckAnswer image plan cert (Yes n) = Accepts image plan cert × (n ≡ certified_need image plan cert) × (n ≤ plan.areas - plan.reserve)
IsCheckAnswer image plan cert (No rule key addr) = IsFirstFault image plan cert rule key addr

-- if the answer of a check is yes, this fact holds of the number that the answer gives
abbrev pub IfAnswerIsYes : Verdict → (ℕ → Type 0) → Type 0
IfAnswerIsYes (Yes n) P = P n
IfAnswerIsYes (No rule key addr) P = Unit {0}
