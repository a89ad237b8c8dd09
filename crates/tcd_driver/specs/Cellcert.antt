-- What `cellcert` reads, prints and writes.
use Rattle.std.specs.Prelude.{◌≡◌, ◌-◌, ℕ, List, length}
use Rattle.elf_image.specs.Images.{ImageData}
use Rattle.tcd_plan.specs.PlanData.{PlanData}
use Rattle.depth_cert.specs.Certs.{CertData, IsCert}
use Rattle.depth_cert.specs.declared.keys.Key.{Key}
use Rattle.depth_cert.specs.Spelling.{bytes_of_cert}
use Rattle.cfg_recover.specs.RulesHoldOrFail.{Accepts, certified_need}
use Rattle.cfg_recover.specs.CertRefusals.{IsRefusal}
use Rattle.depth_maker.specs.LeastCertMade.{IsLeastCert}
use Rattle.depth_maker.specs.Answers.{IsNoCertAccepted}
use Rattle.value_cells.specs.declared.cells.Cell.{Cell}
use Rattle.value_cells.specs.Cells.{with_cells}
use Rattle.value_cells.specs.Keeping.{CertKeepsCellBounds, IsFirstRule16Fault}
use Rattle.value_cells.specs.Safe.{SafeWithCells}
use Rattle.tcd_reading.specs.Reports.{Report, text_report, report_with_file}
use Rattle.tcd_reading.specs.Inputs.{Reading, input, answer}
use Rattle.tcd_driver.specs.CellAndTaskForms.{cells_form}
use Rattle.tcd_forms.specs.Forms.{elf_form, plan_form}
use Rattle.tcd_forms.specs.Lines.{certified_cells_line, refused_line}
use Rattle.tcd_reading.specs.declared.status.Status.TheVariants.{Refused}

-- the names of the files that `cellcert` reads, and of the one that it writes
pub record CellcertArgs : Type 0 where
  pub elf : List ℕ
  pub plan : List ℕ
  pub cells : List ℕ
  pub cert : List ℕ

-- a reason why `cellcert` writes no certificate: each one of format 2 that is accepted under the
-- plan with cells breaks K16
abbrev pub NoneKeepsCells : ImageData → PlanData → List Cell → Type 0
NoneKeepsCells image plan cells =
    (cert : CertData) → IsCert cert → cert.version ≡ 2 → Accepts image (with_cells plan cells) cert → CertKeepsCellBounds image (with_cells plan cells) cells cert → ⊥

-- The report on an image, a plan and its cells, under the plan with cells. If no certificate of
-- format 2 is accepted, the reason is printed. If each one that is accepted breaks K16, the first
-- place at which the least one does is printed. Else the least one keeps the rule, and is written
-- under this name; then every run in which each cell's word starts in its bounds is safe, and keeps
-- the words there.
pub data IsCellcertReport (name : List ℕ) (image : ImageData) (plan : PlanData) (cells : List Cell) (report : Report) : Type 0 where
  refused :
      (rule : ℕ) (key : Key) (addr : ℕ) → IsNoCertAccepted image (with_cells plan cells) 2 → IsRefusal image (with_cells plan cells) 2 rule key addr
      → report ≡ text_report Refused (refused_line rule key addr) → IsCellcertReport name image plan cells report
  broken :
      (cert : CertData) (key : Key) (addr : ℕ) → NoneKeepsCells image plan cells → IsCert cert → IsLeastCert image (with_cells plan cells) 2 cert
      → IsFirstRule16Fault image (with_cells plan cells) cells cert key addr → report ≡ text_report Refused (refused_line 16 key addr)
      → IsCellcertReport name image plan cells report
  certified :
      (cert : CertData) → IsCert cert → IsLeastCert image (with_cells plan cells) 2 cert → CertKeepsCellBounds image (with_cells plan cells) cells cert
      → SafeWithCells image plan cells (certified_need image (with_cells plan cells) cert)
      → report
      ≡ report_with_file name (bytes_of_cert cert) (certified_cells_line (certified_need image (with_cells plan cells) cert) (plan.areas - plan.reserve) (length cells))
      → IsCellcertReport name image plan cells report

-- reads an executable, a plan and its cells; then a certificate is made
abbrev pub cellcert_reading : CellcertArgs → Reading
cellcert_reading names =
    input ImageData elf_form names.elf
    (λ image. input PlanData plan_form names.plan
    (λ plan. input (List Cell) (cells_form plan) names.cells (λ cells. answer (IsCellcertReport names.cert image plan cells))))
