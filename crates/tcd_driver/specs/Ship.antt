-- What `ship` reads, reports and writes.
use Rattle.std.specs.Prelude.{◌≡◌, ◌-◌, ℕ, List, map, string_bytes, Ok, Err}
use Rattle.elf_image.specs.Images.{ImageData}
use Rattle.elf_image.specs.ReadElf.{image_of_file}
use Rattle.elf_image.specs.WrittenElf.{elf_file}
use Rattle.tcd_plan.specs.PlanData.{PlanData}
use Rattle.tc_object.specs.Objects.{ObjectData}
use Rattle.tc_link.specs.Layouts.{LayoutData}
use Rattle.tc_link.specs.Linked.{image_of_objects}
use Rattle.tc_link.specs.Refusals.{Refusal}
use Rattle.tc_program.specs.PlacementLaws.{AreAssembledFrom}
use Rattle.tc_program.specs.Placed.{Placed}
use Rattle.depth_cert.specs.declared.keys.Key.{Key}
use Rattle.depth_cert.specs.Certs.{CertData}
use Rattle.depth_cert.specs.Spelling.{bytes_of_cert}
use Rattle.cfg_recover.specs.RulesHoldOrFail.{certified_need}
use Rattle.tcd_reading.specs.Reports.{Report, ReportFile, text_report, report_with_two_files}
use Rattle.tcd_reading.specs.Inputs.{Reading, input, input_files, answer}
use Rattle.tcd_forms.specs.Forms.{SourceData, plan_form, layout_form, numbered_source_form}
use Rattle.tcd_forms.specs.Lines.{bad_link_line, refused_line, certified_line}
use Rattle.tcd_driver.specs.BestCert.{IsAcceptedBestCert, HasNoAcceptedCert}
use Rattle.tcd_driver.specs.declared.commands.ship.Shipment.{Shipment}
use Rattle.tcd_reading.specs.declared.status.Status.TheVariants.{Refused, BadInput}

-- the names of the files that `ship` reads, and of the two files that it writes
pub record ShipArgs : Type 0 where
  pub plan : List ℕ
  pub layout : List ℕ
  pub elf : List ℕ
  pub cert : List ℕ
  pub sources : List (List ℕ)

-- the objects of the sources that `ship` reads
abbrev pub objects_of_sources : List SourceData → List ObjectData
objects_of_sources sources = map (λ s. s.object) sources

-- the texts of the sources that `ship` reads
abbrev pub texts_of_sources : List SourceData → List (List ℕ)
texts_of_sources sources = map (λ s. s.text) sources

-- the image that `ship` makes and reports on: it is linked by the layout from the objects of the
-- sources that `ship` reads, and has the bytes of each statement
pub record IsImageOfSources (layout : LayoutData) (sources : List SourceData) (image : ImageData) : Type 0 where
  pub linked_is : image_of_objects (objects_of_sources sources) layout ≡ Ok image
  pub placed : Placed (texts_of_sources sources) layout image

-- The report of `ship` on an image and a plan. Either no certificate is accepted, and the line says
-- why. Or two files are written: the image, whose bytes read back as it, and the best certificate;
-- and every run is safe with its need.
pub data IsShipReportOnImage (elf cert : List ℕ) (plan : PlanData) (image : ImageData) (report : Report) : Type 0 where
  refused :
      (rule : ℕ) (key : Key) (addr : ℕ) → HasNoAcceptedCert image plan rule key addr → report ≡ text_report Refused (refused_line rule key addr)
      → IsShipReportOnImage elf cert plan image report
  shipped :
      (c : CertData) → IsAcceptedBestCert image plan c → image_of_file (elf_file image) ≡ Ok image
      → report
      ≡ report_with_two_files (record { name = elf; bytes = elf_file image }) (record { name = cert; bytes = bytes_of_cert c })
      (certified_line (certified_need image plan c) (plan.areas - plan.reserve))
      → IsShipReportOnImage elf cert plan image report

-- the report of `ship` on a plan, a layout and sources: the objects can't be linked, or it is the
-- report on their image
pub data IsShipReport (elf cert : List ℕ) (plan : PlanData) (layout : LayoutData) (sources : List SourceData) (report : Report) : Type 0 where
  unlinked :
      (r : Refusal) → image_of_objects (objects_of_sources sources) layout ≡ Err r → report ≡ text_report BadInput (bad_link_line r)
      → IsShipReport elf cert plan layout sources report
  of_image :
      (i : ImageData) → IsImageOfSources layout sources i → IsShipReportOnImage elf cert plan i report → IsShipReport elf cert plan layout sources report

-- a plan, a layout and the sources are read; then their image is made and certified
abbrev pub ship_reading : ShipArgs → Reading
ship_reading names =
    input PlanData plan_form names.plan
    (λ plan. input LayoutData layout_form names.layout
    (λ layout. input_files SourceData numbered_source_form 0 names.sources (λ sources. answer (IsShipReport names.elf names.cert plan layout sources))))

-- ---- the same, by the values in the code
-- the arguments of `ship` as plain data
abbrev pub ship_args : Shipment → ShipArgs
ship_args s = record { plan = s.plan.now; layout = s.layout.now; elf = s.elf.now; cert = s.cert.now; sources = map string_bytes s.sources.now }

-- the sources of `ship`, which break no rule, with these objects
pub record AreSourcesOfObjects (sources : List SourceData) (objects : List ObjectData) : Type 0 where
  pub objects_are : objects ≡ objects_of_sources sources
  pub assembled : AreAssembledFrom (texts_of_sources sources) (objects_of_sources sources)

-- the two files that `ship` writes: the executable, and its certificate, with these bytes
abbrev pub AreShippedFiles : Shipment → List ℕ → List ℕ → ReportFile × ReportFile → Type 0
AreShippedFiles s image cert files = (files.0 ≡ record { name = s.elf.now; bytes = image }) × (files.1 ≡ record { name = s.cert.now; bytes = cert })

-- the report of `ship` on sources, with the names of the two files to write as the code has them
abbrev pub IsShipmentReport : Shipment → PlanData → LayoutData → List SourceData → Report → Type 0
IsShipmentReport s plan layout sources = IsShipReport s.elf.now s.cert.now plan layout sources

-- what `ship` reads after its plan and its layout, and reports: the sources are read; then their
-- image is made and certified
abbrev pub ship_sources_reading : Shipment → PlanData → LayoutData → Reading
ship_sources_reading s plan layout = input_files SourceData numbered_source_form 0 (map string_bytes s.sources.now) (λ sources. answer (IsShipmentReport s plan layout sources))
