-- What it means that `cells` and `cellcert` are done.
use Rattle.std.proofs.Common.{◌≡◌, ◌-◌, ◌⊎◌, ℕ, List, length, inl, inr, refl, []}
use Rattle.std.specs.FinMap.{insert}
use Rattle.elf_image.specs.Images.{ImageData}
use Rattle.tcd_plan.specs.PlanData.{PlanData}
use Rattle.depth_cert.specs.declared.keys.Key.{Key}
use Rattle.depth_cert.specs.Certs.{CertData}
use Rattle.depth_cert.specs.Spelling.{bytes_of_cert}
use Rattle.depth_cert.proofs.BackLaws.{written_is_read}
use Rattle.cfg_recover.specs.RulesHoldOrFail.{Accepts, IsFirstFault, certified_need}
use Rattle.cfg_recover.specs.CertRefusals.{IsRefusal}
use Rattle.value_cells.specs.declared.cells.Cell.{Cell}
use Rattle.value_cells.specs.Cells.{with_cells}
use Rattle.value_cells.specs.Keeping.{IsFirstRule16Fault}
use Rattle.tcd_base.specs.Files.{FileMap}
use Rattle.tcd_reading.specs.Reports.{Report}
use Rattle.tcd_forms.specs.Lines.{refused_line, certified_cells_line}
use Rattle.tcd_driver.specs.Cells as keeping
use Rattle.tcd_driver.specs.Cells.{CellsArgs, IsCellsVerdict}
use Rattle.tcd_driver.specs.Cellcert as making
use Rattle.tcd_driver.specs.Cellcert.{CellcertArgs, IsCellcertReport}
use Rattle.depth_maker.specs.Answers.{IsNoCertAccepted}
use Rattle.tcd_driver.specs.Headlines.Cells.{AreCellFiles, certified_cells_line_text, HeadlineOfCells, RefusalByCells, HeadlineOfCellcert, NoneKeepsCellBounds, RefusalByCellcert}
use Rattle.tcd_driver.proofs.Headlines.{is_written, accepted_of, least_of, Means, is_done, is_refused, means_as, refused_is}
use Rattle.tcd_driver.specs.Headlines.{HoldsCert}

cells_is : (need areas n : ℕ) → certified_cells_line need areas n ≡ certified_cells_line_text need areas n
unfolding certified_cells_line
cells_is need areas n = refl

-- ---- cells
module _ (names : CellsArgs) (m : FileMap) (i : ImageData) (p : PlanData) (cs : List Cell) (c : CertData) (files : AreCellFiles m names.elf names.plan names.cells i p cs) (cert : HoldsCert m names.cert c) where
  -- one of the two
  refusal_by_cells : (rule : ℕ) (key : Key) (addr : ℕ) →
      IsFirstFault i (with_cells p cs) c rule key addr ⊎ ((rule ≡ 16) × Accepts i (with_cells p cs) c × IsFirstRule16Fault i (with_cells p cs) cs c key addr)
      → RefusalByCells names.elf names.plan names.cells names.cert m m (refused_line rule key addr)
  refusal_by_cells rule key addr fails = record {
    image = i;
    plan = p;
    list = cs;
    cert = c;
    rule = rule;
    frame = key;
    address = addr;
    files = files;
    cert_file = cert;
    fails = fails;
    prints = refused_is rule key addr;
    stays = refl;
  }

  pub cells_means : (r : Report) → IsCellsVerdict i p cs c r → Means m [] (HeadlineOfCells names.elf names.plan names.cells names.cert) (RefusalByCells names.elf names.plan names.cells names.cert) r
  cells_means r (keeping.refused rule key addr first e) = means_as e (is_refused refl refl (refusal_by_cells rule key addr (inl first)))
  cells_means r (keeping.broken key addr accepted first e) = means_as e (is_refused refl refl (refusal_by_cells 16 key addr (inr (refl, accepted, first))))
  cells_means r (keeping.certified accepted keeps safe e) = means_as e (is_done m refl refl (record {
    image = i;
    plan = p;
    list = cs;
    cert = c;
    need = certified_need i (with_cells p cs) c;
    files = files;
    cert_file = cert;
    kept = record { accepted = accepted_of i (with_cells p cs) c accepted; keeps = keeps; safe = safe };
    prints = cells_is (certified_need i (with_cells p cs) c) (p.areas - p.reserve) (length cs);
    stays = refl;
  }))

-- ---- cellcert
module _ (names : CellcertArgs) (m : FileMap) (i : ImageData) (p : PlanData) (cs : List Cell) (files : AreCellFiles m names.elf names.plan names.cells i p cs) where
  -- one of the two
  refusal_by_cellcert : (rule : ℕ) (key : Key) (addr : ℕ) →
      (IsNoCertAccepted i (with_cells p cs) 2 × IsRefusal i (with_cells p cs) 2 rule key addr) ⊎ ((rule ≡ 16) × NoneKeepsCellBounds i p cs key addr)
      → RefusalByCellcert names.elf names.plan names.cells m m (refused_line rule key addr)
  refusal_by_cellcert rule key addr fails = record {
    image = i;
    plan = p;
    list = cs;
    rule = rule;
    frame = key;
    address = addr;
    files = files;
    fails = fails;
    prints = refused_is rule key addr;
    stays = refl;
  }

  pub cellcert_means : (r : Report) → IsCellcertReport names.cert i p cs r → Means m [] (HeadlineOfCellcert names.elf names.plan names.cells names.cert) (RefusalByCellcert names.elf names.plan names.cells) r
  cellcert_means r (making.refused rule key addr none why e) = means_as e (is_refused refl refl (refusal_by_cellcert rule key addr (inl (none, why))))
  cellcert_means r (making.broken c key addr none is made first e) =
      let least = least_of i (with_cells p cs) 2 c is made in
      means_as e (is_refused refl refl (refusal_by_cellcert 16 key addr (inr (refl, record { each = none; cert = c; version = made.of_version; accepted = made.accepted; least = least; first = first }))))
  cellcert_means r (making.certified c is made keeps safe e) = means_as e (is_done (insert m names.cert (bytes_of_cert c)) refl refl (record {
    image = i;
    plan = p;
    list = cs;
    cert = c;
    need = certified_need i (with_cells p cs) c;
    files = files;
    kept = record { accepted = accepted_of i (with_cells p cs) c made.accepted; keeps = keeps; safe = safe };
    version = made.of_version;
    least = least_of i (with_cells p cs) 2 c is made;
    reads = written_is_read c is;
    writes = is_written m names.cert (bytes_of_cert c);
    prints = cells_is (certified_need i (with_cells p cs) c) (p.areas - p.reserve) (length cs);
  }))
