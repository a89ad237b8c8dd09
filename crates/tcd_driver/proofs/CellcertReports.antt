-- What `cellcert` reports.
use Rattle.std.proofs.Common.{◌≡◌, ◌-◌, ℕ, List, length, sym, subst, ◌∙◌, refl}
use Rattle.elf_image.specs.Images.{ImageData}
use Rattle.tcd_plan.specs.PlanData.{PlanData, IsPlan}
use Rattle.tc_machine.specs.Safe.{Safe}
use Rattle.depth_cert.specs.Certs.{CertData, IsCert}
use Rattle.depth_cert.specs.declared.keys.Key.{Key}
use Rattle.depth_cert.specs.Spelling.{bytes_of_cert}
use Rattle.cfg_recover.specs.RulesHoldOrFail.{certified_need}
use Rattle.depth_check.proofs.Held as held
use Rattle.depth_maker.specs.LeastCertMade.{IsLeastCert}
use Rattle.value_cells.specs.declared.cells.Cell.{Cell}
use Rattle.value_cells.specs.Cells.{with_cells, AreCells}
use Rattle.value_cells.specs.Keeping.{CertKeepsCellBounds, FailsRule16At, IsFirstRule16Fault}
use Rattle.value_cells.proofs.CellPlan.{IsPlan-with_cells}
use Rattle.value_cells.proofs.CellSafe.{cells_keep}
use Rattle.value_cells.proofs.GrowthLaws.{cell_faults_grow, cell_faults_refute}
use Rattle.tcd_reading.specs.Reports.{Report, text_report, report_with_file}
use Rattle.tcd_forms.specs.Lines.{refused_line, certified_cells_line}
use Rattle.tcd_driver.specs.BestCert.{IsLeastWithNeed}
use Rattle.tcd_driver.specs.Cellcert.{NoneKeepsCells, IsCellcertReport, refused, broken, certified}
use Rattle.tcd_reading.specs.declared.status.Status.TheVariants.{Refused}
use Rattle.tcd_driver.proofs.Alike.{IsSide, well, against}

-- ---- K16
-- if the least certificate breaks K16, each one does
none_keeps : (i : ImageData) (p : PlanData) (cells : List Cell) (c : CertData) (k : Key) (x : ℕ) → IsPlan (with_cells p cells) → IsCert c → IsLeastCert i (with_cells p cells) 2 c → FailsRule16At i (with_cells p cells) cells c k x → NoneKeepsCells i p cells
none_keeps i p cells c k x ok is made breaks other is_other version accepted keeps =
    let better = made.best other is_other version accepted in
    cell_faults_refute i (with_cells p cells) cells other k x
    (cell_faults_grow i (with_cells p cells) cells c other k x ok is is_other (made.of_version ∙ sym version) made.accepted accepted better.below breaks) keeps

-- ---- reports
module _ (name : List ℕ) (i : ImageData) (fields p : PlanData) (cells : List Cell) (c : CertData) (need : ℕ) (same : fields ≡ p) (is_plan : IsPlan fields) (are : AreCells p cells) (least : IsLeastWithNeed i (with_cells p cells) 2 c need) where
  -- the report if the least certificate breaks the rule
  pub broken_report : (key : Key) (addr : ℕ) (r : Report) → IsFirstRule16Fault i (with_cells p cells) cells c key addr → r ≡ text_report Refused (refused_line 16 key addr) → IsCellcertReport name i p cells r
  broken_report key addr r first is =
      broken c key addr (none_keeps i p cells c key addr (IsPlan-with_cells (subst IsPlan same is_plan) cells are) least.is_cert least.made first.breaks) least.is_cert least.made first is

  -- the report if the certificate keeps the cells, and is written
  pub kept_report : (bytes : List ℕ) (count : ℕ) (r : Report) → bytes ≡ bytes_of_cert c → CertKeepsCellBounds i (with_cells p cells) cells c → count ≡ length cells
      → r ≡ report_with_file name bytes (certified_cells_line need (fields.areas - fields.reserve) count) → IsCellcertReport name i p cells r
  kept_report bytes count r spell keeps many told =
      let ok = subst IsPlan same is_plan in
      let accepted = (least.made).accepted in
      let frames = held.frames_are_held i (with_cells p cells) c (IsPlan-with_cells ok cells are) least.is_cert accepted in
      certified c least.is_cert least.made keeps
      (cells_keep i p cells c (certified_need i (with_cells p cells) c) ok are least.is_cert accepted (subst (λ (n : ℕ). Safe i (with_cells p cells) n) least.need_is least.safe) frames keeps)
      (let n = least.need_is in cc)

-- ---- reports are alike
pub cellcert_side : (name : List ℕ) (i : ImageData) (p : PlanData) (cells : List Cell) (r : Report) → IsCellcertReport name i p cells r
    → IsSide ((c : CertData) × IsCert c × IsLeastCert i (with_cells p cells) 2 c × CertKeepsCellBounds i (with_cells p cells) cells c) Refused r
cellcert_side name i p cells r (refused rule key addr none why e) = against _ e (λ w. none w.0 w.1 (w.2).of_version (w.2).accepted)
cellcert_side name i p cells r (broken c key addr none is made first e) = against _ e (λ w. none w.0 w.1 (w.2).of_version (w.2).accepted w.3)
cellcert_side name i p cells r (certified c is made keeps safe e) = well _ e refl (c, is, made, keeps)
