-- What `report` reads and reports.
use Rattle.std.specs.Prelude.{◌≡◌, ℕ, List}
use Rattle.elf_image.specs.Images.{ImageData}
use Rattle.tcd_plan.specs.PlanData.{PlanData}
use Rattle.tc_machine.specs.Safe.{Safe}
use Rattle.depth_cert.specs.declared.keys.Key.{Key}
use Rattle.depth_cert.specs.Certs.{CertData}
use Rattle.cfg_recover.specs.RulesHoldOrFail.{Accepts, IsFirstFault, certified_need}
use Rattle.tcd_report.specs.Reports.{IsReport}
use Rattle.tcd_reading.specs.Reports.{Report, text_report}
use Rattle.tcd_reading.specs.Inputs.{Reading, input, answer}
use Rattle.tcd_forms.specs.Forms.{elf_form, plan_form, cert_form}
use Rattle.tcd_forms.specs.Lines.{refused_line}
use Rattle.tcd_reading.specs.declared.status.Status.TheVariants.{Done, Refused}

-- the names of the files that `report` reads
pub record ReportArgs : Type 0 where
  pub elf : List ℕ
  pub plan : List ℕ
  pub cert : List ℕ

-- The answer of `report` on a certificate. Either it isn't accepted, and the line has its first
-- fault. Or it is accepted, every run is safe with its need, and the text is its report.
pub data IsReportOrRefusal (image : ImageData) (plan : PlanData) (cert : CertData) (told : Report) : Type 0 where
  refused :
      (rule : ℕ) (key : Key) (addr : ℕ) → IsFirstFault image plan cert rule key addr → told ≡ text_report Refused (refused_line rule key addr)
      → IsReportOrRefusal image plan cert told
  reported :
      (text : List ℕ) → Accepts image plan cert → Safe image plan (certified_need image plan cert) → IsReport image plan cert text → told ≡ text_report Done text
      → IsReportOrRefusal image plan cert told

-- an executable, a plan and a certificate are read; then the certificate's report is printed
abbrev pub report_reading : ReportArgs → Reading
report_reading names =
    input ImageData elf_form names.elf
    (λ image. input PlanData plan_form names.plan (λ plan. input CertData cert_form names.cert (λ cert. answer (IsReportOrRefusal image plan cert))))
