-- What `cells` reports.
use Rattle.std.proofs.Common.{◌≡◌, ◌-◌, ℕ, List, length, Ok, Err, subst, refl}
use Rattle.elf_image.specs.Images.{ImageData}
use Rattle.tcd_plan.specs.PlanData.{PlanData, IsPlan}
use Rattle.tc_machine.specs.Safe.{Safe}
use Rattle.depth_cert.specs.Certs.{CertData, IsCert}
use Rattle.cfg_recover.specs.RulesHoldOrFail.{Accepts, certified_need}
use Rattle.cfg_recover.proofs.FaultLaws.{fails_refutes}
use Rattle.depth_check.proofs.Held as held
use Rattle.value_cells.specs.declared.cells.Cell.{Cell}
use Rattle.value_cells.specs.Cells.{with_cells, AreCells}
use Rattle.value_cells.specs.Keeping.{CertKeepsCellBounds}
use Rattle.value_cells.proofs.CellPlan.{IsPlan-with_cells}
use Rattle.value_cells.proofs.CellSafe.{cells_keep}
use Rattle.value_cells.proofs.GrowthLaws.{cell_faults_refute}
use Rattle.value_cells.proofs.ReadOne.{reads_one}
use Rattle.tcd_reading.specs.Reports.{Report, text_report}
use Rattle.tcd_driver.specs.CellAndTaskForms.{cells_form}
use Rattle.tcd_forms.specs.Lines.{certified_cells_line}
use Rattle.tcd_driver.specs.Cells.{IsCellsVerdict, refused, broken, certified}
use Rattle.tcd_reading.specs.declared.status.Status.TheVariants.{Done, Refused}
use Rattle.tcd_reading.proofs.Decided.{IsLawful}
use Rattle.tcd_driver.proofs.Alike.{IsSide, well, against}

-- a text is cells, or none
pub cells_lawful : (p : PlanData) → IsLawful (cells_form p)
cells_lawful p = record {
  one = λ b x y h k. let e = reads_one p b (Ok x) (Ok y) h k in cc;
  apart = λ b t x h k. let e = reads_one p b (Ok x) (Err k.0) h k.1 in cc;
}

pub cells_side : (i : ImageData) (p : PlanData) (cells : List Cell) (c : CertData) (r : Report) → IsCellsVerdict i p cells c r → IsSide (Accepts i (with_cells p cells) c × CertKeepsCellBounds i (with_cells p cells) cells c) Refused r
cells_side i p cells c r (refused rule key addr first e) = against _ e (λ w. fails_refutes i (with_cells p cells) c rule key addr first.fails w.0)
cells_side i p cells c r (broken key addr accepted breaks e) = against _ e (λ w. cell_faults_refute i (with_cells p cells) cells c key addr breaks.breaks w.1)
cells_side i p cells c r (certified accepted keeps safe e) = well _ e refl (accepted, keeps)

-- the report on a certificate that is accepted and keeps the cells
pub cells_report : (i : ImageData) (fields p : PlanData) (cells : List Cell) (parts c : CertData) (need count : ℕ) (r : Report) → fields ≡ p → IsPlan fields → AreCells p cells → parts ≡ c → IsCert parts
    → Accepts i (with_cells p cells) c → need ≡ certified_need i (with_cells p cells) c → Safe i (with_cells p cells) need → CertKeepsCellBounds i (with_cells p cells) cells c → count ≡ length cells
    → r ≡ text_report Done (certified_cells_line need (fields.areas - fields.reserve) count) → IsCellsVerdict i p cells c r
cells_report i fields p cells parts c need count r same is_plan are cert is_cert accepted is safe keeps many e =
    let ok = subst IsPlan same is_plan in
    let good = subst IsCert cert is_cert in
    let frames = held.frames_are_held i (with_cells p cells) c (IsPlan-with_cells ok cells are) good accepted in
    certified accepted keeps (cells_keep i p cells c (certified_need i (with_cells p cells) c) ok are good accepted (subst (λ (n : ℕ). Safe i (with_cells p cells) n) is safe) frames keeps)
    cc
