-- What it means that `cells` and `cellcert` are done, or refuse.
use Rattle.std.specs.Prelude.{◌≡◌, ◌-◌, ◌^◌, ◌⊎◌, ℕ, List, [], ◌∷◌, ◌++◌, codes, length, Ok}
use Rattle.std.specs.Fmt.{decimal}
use Rattle.elf_image.specs.Images.{ImageData}
use Rattle.tcd_plan.specs.PlanData.{PlanData}
use Rattle.depth_cert.specs.declared.keys.Key.{Key}
use Rattle.depth_cert.specs.Certs.{CertData, IsCert}
use Rattle.depth_cert.specs.Grammar.{certificate_of}
use Rattle.depth_cert.specs.Spelling.{bytes_of_cert}
use Rattle.cfg_recover.specs.RulesHoldOrFail.{Accepts, IsFirstFault}
use Rattle.cfg_recover.specs.CertRefusals.{IsRefusal}
use Rattle.value_cells.specs.declared.cells.Cell.{Cell}
use Rattle.value_cells.specs.Cells.{with_cells}
use Rattle.value_cells.specs.Keeping.{CertKeepsCellBounds, IsFirstRule16Fault}
use Rattle.value_cells.specs.CellListText.{IsResultOfCellText}
use Rattle.value_cells.specs.Safe.{SafeWithCells}
use Rattle.tcd_base.specs.Files.{FileMap}
use Rattle.tcd_driver.specs.Headlines.{HoldsFile, AreFirmwareFiles, HoldsCert, IsOnlyFileWritten, IsAcceptedWithNeed, refused_line_text}
use Rattle.depth_maker.specs.Answers.{IsNoCertAccepted}
use Rattle.tcd_driver.specs.BestCert.{IsLeastOfItsFormat}

-- the files that `cells` and `cellcert` read first: the names hold an executable, a plan, and its
-- cells
pub record AreCellFiles (before : FileMap) (elf_name plan_name cells_name : List ℕ) (image : ImageData) (plan : PlanData) (list : List Cell) : Type 0 where
  pub firmware : AreFirmwareFiles before elf_name plan_name image plan
  pub cells_file : HoldsFile before cells_name (2 ^ 24) (λ bytes. IsResultOfCellText plan bytes (Ok list))

-- The certificate is accepted under the plan in which the cells are peripherals, and each store
-- keeps the cells' bounds. So each run under the plan itself is safe with the certificate's need if
-- each cell starts in its bounds, and each cell stays in them.
pub record AreCellsKeptWithNeed (image : ImageData) (plan : PlanData) (list : List Cell) (cert : CertData) (need : ℕ) : Type 0 where
  pub accepted : IsAcceptedWithNeed image (with_cells plan list) cert need
  pub keeps : CertKeepsCellBounds image (with_cells plan list) list cert
  pub safe : SafeWithCells image plan list need

-- the line in the headlines of `cells` and `cellcert`: the need, the areas without the reserve, and
-- the number of cells
abbrev pub certified_cells_line_text : ℕ → ℕ → ℕ → List ℕ
certified_cells_line_text need areas n =
    codes "certified " ++ (decimal need ++ (codes " of " ++ (decimal areas ++ (codes " areas with " ++ (decimal n ++ (codes " cells" ++ 10 ∷ []))))))

-- `cells` is done: by the certificate every run is safe and keeps the cells in their bounds.
pub record HeadlineOfCells (elf_name plan_name cells_name cert_name : List ℕ) (before after : FileMap) (printed : List ℕ) : Type 0 where
  pub image : ImageData
  pub plan : PlanData
  pub list : List Cell
  pub cert : CertData
  pub need : ℕ
  pub files : AreCellFiles before elf_name plan_name cells_name image plan list
  pub cert_file : HoldsCert before cert_name cert
  pub kept : AreCellsKeptWithNeed image plan list cert need
  pub prints : printed ≡ certified_cells_line_text need (plan.areas - plan.reserve) (length list)
  pub stays : after ≡ before

-- `cells` refuses: the certificate isn't accepted, and this rule fails first. Or it is accepted,
-- and this is the first store that may leave a cell's bounds (K16).
pub record RefusalByCells (elf_name plan_name cells_name cert_name : List ℕ) (before after : FileMap) (printed : List ℕ) : Type 0 where
  pub image : ImageData
  pub plan : PlanData
  pub list : List Cell
  pub cert : CertData
  pub rule : ℕ
  pub frame : Key
  pub address : ℕ
  pub files : AreCellFiles before elf_name plan_name cells_name image plan list
  pub cert_file : HoldsCert before cert_name cert
  pub fails :
      IsFirstFault image (with_cells plan list) cert rule frame address
      ⊎ ((rule ≡ 16) × Accepts image (with_cells plan list) cert × IsFirstRule16Fault image (with_cells plan list) list cert frame address)
  pub prints : printed ≡ refused_line_text rule frame address
  pub stays : after ≡ before

-- `cellcert` is done: CERT now holds such a certificate, the least of format 2 under the plan in
-- which the cells are peripherals.
pub record HeadlineOfCellcert (elf_name plan_name cells_name cert_name : List ℕ) (before after : FileMap) (printed : List ℕ) : Type 0 where
  pub image : ImageData
  pub plan : PlanData
  pub list : List Cell
  pub cert : CertData
  pub need : ℕ
  pub files : AreCellFiles before elf_name plan_name cells_name image plan list
  pub kept : AreCellsKeptWithNeed image plan list cert need
  pub version : cert.version ≡ 2
  pub least : IsLeastOfItsFormat image (with_cells plan list) cert
  pub reads : certificate_of (bytes_of_cert cert) ≡ Ok cert
  pub writes : IsOnlyFileWritten before after cert_name (bytes_of_cert cert)
  pub prints : printed ≡ certified_cells_line_text need (plan.areas - plan.reserve) (length list)

-- in the headline of a refusal by `cellcert`: by each accepted certificate of format 2 a store may
-- leave a cell's bounds, and here is the first such store by the least one
pub record NoneKeepsCellBounds (image : ImageData) (plan : PlanData) (list : List Cell) (frame : Key) (address : ℕ) : Type 0 where
  pub each : (other : CertData) → IsCert other → other.version ≡ 2 → Accepts image (with_cells plan list) other → CertKeepsCellBounds image (with_cells plan list) list other → ⊥
  pub cert : CertData
  pub version : cert.version ≡ 2
  pub accepted : Accepts image (with_cells plan list) cert
  pub least : IsLeastOfItsFormat image (with_cells plan list) cert
  pub first : IsFirstRule16Fault image (with_cells plan list) list cert frame address

-- `cellcert` refuses: no certificate of format 2 is accepted, and this is why. Or none that is
-- accepted keeps the cells' bounds (K16).
pub record RefusalByCellcert (elf_name plan_name cells_name : List ℕ) (before after : FileMap) (printed : List ℕ) : Type 0 where
  pub image : ImageData
  pub plan : PlanData
  pub list : List Cell
  pub rule : ℕ
  pub frame : Key
  pub address : ℕ
  pub files : AreCellFiles before elf_name plan_name cells_name image plan list
  pub fails :
      (IsNoCertAccepted image (with_cells plan list) 2 × IsRefusal image (with_cells plan list) 2 rule frame address)
      ⊎ ((rule ≡ 16) × NoneKeepsCellBounds image plan list frame address)
  pub prints : printed ≡ refused_line_text rule frame address
  pub stays : after ≡ before
