-- What `cert` reads, reports and writes.
use Rattle.std.specs.Prelude.{◌≡◌, ◌-◌, ℕ, List}
use Rattle.elf_image.specs.Images.{ImageData}
use Rattle.tcd_plan.specs.PlanData.{PlanData}
use Rattle.depth_cert.specs.declared.keys.Key.{Key}
use Rattle.depth_cert.specs.Certs.{CertData}
use Rattle.depth_cert.specs.Spelling.{bytes_of_cert}
use Rattle.cfg_recover.specs.RulesHoldOrFail.{certified_need}
use Rattle.tcd_reading.specs.Reports.{Report, text_report, report_with_file}
use Rattle.tcd_reading.specs.Inputs.{Reading, input, answer}
use Rattle.tcd_forms.specs.Forms.{elf_form, plan_form}
use Rattle.tcd_forms.specs.Lines.{refused_line, certified_line}
use Rattle.tcd_driver.specs.BestCert.{IsAcceptedBestCert, HasNoAcceptedCert}
use Rattle.tcd_reading.specs.declared.status.Status.TheVariants.{Refused}

-- the names of the files that `cert` reads, and of the certificate that it writes
pub record CertArgs : Type 0 where
  pub elf : List ℕ
  pub plan : List ℕ
  pub cert : List ℕ

-- The report of `cert` on an image and a plan. Either no certificate is accepted, and the line says
-- why. Or the best one is written under this name, and every run is safe with its need.
pub data IsCertReport (name : List ℕ) (image : ImageData) (plan : PlanData) (report : Report) : Type 0 where
  refused :
      (rule : ℕ) (key : Key) (addr : ℕ) → HasNoAcceptedCert image plan rule key addr → report ≡ text_report Refused (refused_line rule key addr)
      → IsCertReport name image plan report
  certified :
      (cert : CertData) → IsAcceptedBestCert image plan cert
      → report ≡ report_with_file name (bytes_of_cert cert) (certified_line (certified_need image plan cert) (plan.areas - plan.reserve))
      → IsCertReport name image plan report

-- an executable and a plan are read; then a certificate is made
abbrev pub cert_reading : CertArgs → Reading
cert_reading names =
    input ImageData elf_form names.elf
    (λ image. input PlanData plan_form names.plan (λ plan. answer (IsCertReport names.cert image plan)))
