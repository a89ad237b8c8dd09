-- What `cfg` reads and reports.
use Rattle.std.specs.Prelude.{◌≡◌, ℕ, List}
use Rattle.elf_image.specs.Images.{ImageData}
use Rattle.tcd_plan.specs.PlanData.{PlanData}
use Rattle.depth_cert.specs.declared.keys.Key.{Key}
use Rattle.depth_cert.specs.Certs.{CertData}
use Rattle.tcd_report.specs.Graphs.{IsGraph}
use Rattle.tcd_report.specs.Graphs.EdgeLaws.{LinesHaveAllEdges}
use Rattle.tcd_reading.specs.Reports.{Report, text_report}
use Rattle.tcd_reading.specs.Inputs.{Reading, input, answer}
use Rattle.tcd_forms.specs.Forms.{elf_form, plan_form}
use Rattle.tcd_forms.specs.Lines.{refused_line}
use Rattle.tcd_driver.specs.BestCert.{IsAcceptedBestCert, HasNoAcceptedCert}
use Rattle.tcd_reading.specs.declared.status.Status.TheVariants.{Done, Refused}

-- the names of the files that `cfg` reads
pub record CfgArgs : Type 0 where
  pub elf : List ℕ
  pub plan : List ℕ

-- The text that `cfg` reports: the graph of the best certificate, by which every run is safe. Its
-- lines have the edge of each step of each run, with its address and the key of its frame.
pub record IsCfgText (image : ImageData) (plan : PlanData) (text : List ℕ) : Type 0 where
  pub cert : CertData
  pub certified : IsAcceptedBestCert image plan cert
  pub graph : IsGraph image plan cert text
  pub edges : LinesHaveAllEdges image plan cert graph.lines

-- the report of `cfg`: no certificate is accepted, and the line says why; or the text is the graph
-- of the best one
pub data IsCfgReport (image : ImageData) (plan : PlanData) (told : Report) : Type 0 where
  refused : (rule : ℕ) (key : Key) (addr : ℕ) → HasNoAcceptedCert image plan rule key addr → told ≡ text_report Refused (refused_line rule key addr) → IsCfgReport image plan told
  drawn : (text : List ℕ) → IsCfgText image plan text → told ≡ text_report Done text → IsCfgReport image plan told

-- an executable and a plan are read; then the graph is reported
abbrev pub cfg_reading : CfgArgs → Reading
cfg_reading names = input ImageData elf_form names.elf (λ image. input PlanData plan_form names.plan (λ plan. answer (IsCfgReport image plan)))
