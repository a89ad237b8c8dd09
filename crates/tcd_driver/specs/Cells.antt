-- What `cells` reads and prints.
use Rattle.std.specs.Prelude.{◌≡◌, ◌-◌, ℕ, List, length}
use Rattle.elf_image.specs.Images.{ImageData}
use Rattle.tcd_plan.specs.PlanData.{PlanData}
use Rattle.depth_cert.specs.Certs.{CertData}
use Rattle.depth_cert.specs.declared.keys.Key.{Key}
use Rattle.cfg_recover.specs.RulesHoldOrFail.{Accepts, IsFirstFault, certified_need}
use Rattle.value_cells.specs.declared.cells.Cell.{Cell}
use Rattle.value_cells.specs.Cells.{with_cells}
use Rattle.value_cells.specs.Keeping.{CertKeepsCellBounds, IsFirstRule16Fault}
use Rattle.value_cells.specs.Safe.{SafeWithCells}
use Rattle.tcd_reading.specs.Reports.{Report, text_report}
use Rattle.tcd_reading.specs.Inputs.{Reading, input, answer}
use Rattle.tcd_driver.specs.CellAndTaskForms.{cells_form}
use Rattle.tcd_forms.specs.Forms.{elf_form, plan_form, cert_form}
use Rattle.tcd_forms.specs.Lines.{certified_cells_line, refused_line}
use Rattle.tcd_reading.specs.declared.status.Status.TheVariants.{Done, Refused}

-- the names of the files that `cells` reads
pub record CellsArgs : Type 0 where
  pub elf : List ℕ
  pub plan : List ℕ
  pub cells : List ℕ
  pub cert : List ℕ

-- The verdict on an image, a plan, its cells and a certificate, under the plan with cells. If the
-- certificate isn't accepted, its first fault is printed. If it is, and K16 fails, the first place
-- at which it fails is printed. Else every run in which each cell's word starts in its bounds is
-- safe, and keeps the words there.
pub data IsCellsVerdict (image : ImageData) (plan : PlanData) (cells : List Cell) (cert : CertData) (report : Report) : Type 0 where
  refused :
      (rule : ℕ) (key : Key) (addr : ℕ) → IsFirstFault image (with_cells plan cells) cert rule key addr → report ≡ text_report Refused (refused_line rule key addr)
      → IsCellsVerdict image plan cells cert report
  broken :
      (key : Key) (addr : ℕ) → Accepts image (with_cells plan cells) cert → IsFirstRule16Fault image (with_cells plan cells) cells cert key addr
      → report ≡ text_report Refused (refused_line 16 key addr) → IsCellsVerdict image plan cells cert report
  certified :
      Accepts image (with_cells plan cells) cert → CertKeepsCellBounds image (with_cells plan cells) cells cert
      → SafeWithCells image plan cells (certified_need image (with_cells plan cells) cert)
      → report ≡ text_report Done (certified_cells_line (certified_need image (with_cells plan cells) cert) (plan.areas - plan.reserve) (length cells))
      → IsCellsVerdict image plan cells cert report

-- reads an executable, a plan, its cells and a certificate; then the verdict is printed
abbrev pub cells_reading : CellsArgs → Reading
cells_reading names =
    input ImageData elf_form names.elf
    (λ image. input PlanData plan_form names.plan
    (λ plan. input (List Cell) (cells_form plan) names.cells (λ cells. input CertData cert_form names.cert (λ cert. answer (IsCellsVerdict image plan cells cert)))))
