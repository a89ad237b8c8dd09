-- What `check` reads and reports.
use Rattle.std.specs.Prelude.{◌≡◌, ◌-◌, ℕ, List}
use Rattle.elf_image.specs.Images.{ImageData}
use Rattle.tcd_plan.specs.PlanData.{PlanData}
use Rattle.tc_machine.specs.Safe.{Safe}
use Rattle.depth_cert.specs.Certs.{CertData}
use Rattle.depth_cert.specs.declared.keys.Key.{Key}
use Rattle.cfg_recover.specs.RulesHoldOrFail.{Accepts, IsFirstFault, certified_need}
use Rattle.tcd_reading.specs.Reports.{Report, text_report}
use Rattle.tcd_reading.specs.Inputs.{Reading, input, answer}
use Rattle.tcd_forms.specs.Forms.{elf_form, plan_form, cert_form}
use Rattle.tcd_forms.specs.Lines.{refused_line, certified_line}
use Rattle.tcd_reading.specs.declared.status.Status.TheVariants.{Done, Refused}

-- the names of the files that `check` reads
pub record CheckArgs : Type 0 where
  pub elf : List ℕ
  pub plan : List ℕ
  pub cert : List ℕ

-- The verdict of `check` on a certificate. Either it isn't accepted, and the line has its first
-- fault. Or it is accepted, and every run is safe with its need.
pub data IsCheckVerdict (image : ImageData) (plan : PlanData) (cert : CertData) (report : Report) : Type 0 where
  refused :
      (rule : ℕ) (key : Key) (addr : ℕ) → IsFirstFault image plan cert rule key addr → report ≡ text_report Refused (refused_line rule key addr)
      → IsCheckVerdict image plan cert report
  certified :
      Accepts image plan cert → Safe image plan (certified_need image plan cert)
      → report ≡ text_report Done (certified_line (certified_need image plan cert) (plan.areas - plan.reserve)) → IsCheckVerdict image plan cert report

-- an executable, a plan and a certificate are read; then the verdict is reported
abbrev pub check_reading : CheckArgs → Reading
check_reading names =
    input ImageData elf_form names.elf
    (λ image. input PlanData plan_form names.plan (λ plan. input CertData cert_form names.cert (λ cert. answer (IsCheckVerdict image plan cert))))
