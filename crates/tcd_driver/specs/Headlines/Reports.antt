-- What it means that `cfg`, `report`, `dis` and `gen` are done, and that `gen` refuses.
use Rattle.std.specs.Prelude.{◌≡◌, ◌-◌, ℕ, List, ◌∷◌, ◌++◌, codes, length, []}
use Rattle.std.specs.Fmt.{decimal}
use Rattle.std.specs.List.{flat_map}
use Rattle.elf_image.specs.Images.{ImageData}
use Rattle.tcd_plan.specs.PlanData.{PlanData}
use Rattle.tc_machine.specs.Safe.{Safe}
use Rattle.tc_disasm.specs.Listing.{listing_of}
use Rattle.depth_cert.specs.Certs.{CertData}
use Rattle.depth_cert.specs.Nodes.{count_points}
use Rattle.cfg_recover.specs.RulesHoldOrFail.{certified_need}
use Rattle.tcd_report.specs.Graphs.{AreGraphLines}
use Rattle.tcd_report.specs.Graphs.EdgeLaws.{LinesHaveAllEdges}
use Rattle.tcd_report.specs.Reports.{IsReport}
use Rattle.tcd_report.specs.Generated.{generated_image}
use Rattle.tcd_report.specs.Generated.Planned.{generated_plan}
use Rattle.tcd_base.specs.Files.{FileMap}
use Rattle.tcd_driver.specs.Headlines.{HoldsImage, AreFirmwareFiles, AreCheckFiles, IsAcceptedWithNeed, IsBestWithNeed, refused_line_text}
use Rattle.depth_maker.specs.Answers.{IsNoCertAccepted}
use Rattle.tcd_driver.specs.BestCert.{IsLeastOfItsFormat}
use Rattle.tcd_driver.specs.Gen.{IsGenFunctionCount}
use Rattle.depth_cert.specs.declared.keys.Key.{Key}
use Rattle.cfg_recover.specs.CertRefusals.{IsRefusal}

-- ---- cfg
-- `cfg` is done: the text is the graph of the best certificate. The edge of each step of each run
-- is on one of its lines, with its address and the key of its frame.
pub record HeadlineOfCfg (elf_name plan_name : List ℕ) (before after : FileMap) (printed : List ℕ) : Type 0 where
  pub image : ImageData
  pub plan : PlanData
  pub cert : CertData
  pub need : ℕ
  pub lines : List (List ℕ)
  pub files : AreFirmwareFiles before elf_name plan_name image plan
  pub best : IsBestWithNeed image plan cert need
  pub graph : AreGraphLines image plan cert lines
  pub edges : LinesHaveAllEdges image plan cert lines
  pub prints : printed ≡ flat_map (λ line. line) lines
  pub stays : after ≡ before

-- ---- report
-- `report` is done: the certificate is accepted, as for `check`, and the text is its report, with
-- this need.
pub record HeadlineOfReport (elf_name plan_name cert_name : List ℕ) (before after : FileMap) (printed : List ℕ) : Type 0 where
  pub image : ImageData
  pub plan : PlanData
  pub cert : CertData
  pub need : ℕ
  pub files : AreCheckFiles before elf_name plan_name cert_name image plan cert
  pub accepted : IsAcceptedWithNeed image plan cert need
  pub safe : Safe image plan need
  pub told : certified_need image plan cert ≡ need
  pub prints : IsReport image plan cert printed
  pub stays : after ≡ before

-- ---- dis
-- `dis` has reported on an executable: the text is its listing.
pub record HeadlineOfDis (elf_name : List ℕ) (before after : FileMap) (printed : List ℕ) : Type 0 where
  pub image : ImageData
  pub elf_file : HoldsImage before elf_name image
  pub prints : printed ≡ listing_of image
  pub stays : after ≡ before

-- ---- gen

-- the line that `gen` reports in its headline: functions, nodes, points, the need, and the areas
-- without the reserve
abbrev pub generated_line_text : ℕ → ℕ → ℕ → ℕ → ℕ → List ℕ
generated_line_text functions nodes points need areas =
    codes "functions "
    ++ (decimal functions
    ++ (codes " nodes "
    ++ (decimal nodes
    ++ (codes " points "
    ++ (decimal points ++ (codes " certified " ++ (decimal need ++ (codes " of " ++ (decimal areas ++ (codes " areas" ++ 10 ∷ []))))))))))

-- `gen` has reported on a generated image and its plan: the line counts the least certificate of
-- format 1, and every run of the image is safe with its need.
pub record HeadlineOfGen (word : List ℕ) (before after : FileMap) (printed : List ℕ) : Type 0 where
  pub functions : ℕ
  pub cert : CertData
  pub need : ℕ
  pub counted : IsGenFunctionCount word functions
  pub accepted : IsAcceptedWithNeed (generated_image functions) generated_plan cert need
  pub safe : Safe (generated_image functions) generated_plan need
  pub version : cert.version ≡ 1
  pub least : IsLeastOfItsFormat (generated_image functions) generated_plan cert
  pub prints : printed ≡ generated_line_text functions (length cert.nodes) (count_points cert.nodes) need (generated_plan.areas - generated_plan.reserve)
  pub stays : after ≡ before

-- `gen`, which only reports, refuses: no certificate of format 1 is accepted for the generated
-- image, and this is why.
pub record RefusalByGen (word : List ℕ) (before after : FileMap) (printed : List ℕ) : Type 0 where
  pub functions : ℕ
  pub rule : ℕ
  pub frame : Key
  pub address : ℕ
  pub counted : IsGenFunctionCount word functions
  pub none : IsNoCertAccepted (generated_image functions) generated_plan 1
  pub why : IsRefusal (generated_image functions) generated_plan 1 rule frame address
  pub prints : printed ≡ refused_line_text rule frame address
  pub stays : after ≡ before
