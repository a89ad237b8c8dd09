-- Sources that are assembled and linked, and the listing of their image.
use Rattle.std.specs.Prelude.{◌≡◌, ◌≢◌, ◌≤◌, ◌^◌, ℕ, true, List, [], ◌∷◌, ◌++◌, length, map, All, Option, Ok, IsTrue, IsSome}
use Rattle.elf_image.specs.Images.{ImageData}
use Rattle.elf_image.specs.WrittenElf.{elf_file}
use Rattle.tc_object.specs.Objects.{ObjectData}
use Rattle.tc_object.specs.Spelling.{bytes_of_object}
use Rattle.tc_link.specs.Layouts.{LayoutData}
use Rattle.tc_link.specs.Linked.{image_of_objects}
use Rattle.tc_disasm.specs.Listing.{listing_of}
use Rattle.tcd_base.specs.Files.{FileMap, FilesSeen}
use Rattle.tcd_base.specs.Sink.{SinkSeen, HasRoomFor}
use Rattle.tcd_reading.specs.Reports.{Report, text_report, report_with_file}
use Rattle.tcd_laws.specs.Sequences.{all_report_texts, EndInSequence, ReportSurelyInSequence, SequenceEndsWithoutFault}
use Rattle.tcd_reading.specs.Inputs.{HoldsInput}
use Rattle.tcd_reading.specs.declared.status.Status.{Status}
use Rattle.tcd_reading.specs.declared.status.Status.TheVariants.{Done}
use Rattle.tcd_forms.specs.Forms.{source_form, layout_form}
use Rattle.tcd_forms.specs.Lines.{assembled_object_line, linked_image_line}
use Rattle.tcd_driver.specs.Asm.{AsmArgs}
use Rattle.tcd_driver.specs.Commands.{Command, asm, link, dis}
use Rattle.tcd_driver.specs.DistinctNames.{are_distinct_names}

-- a part of a build: the names of a source and its object, and what it is assembled to
pub record BuildPartData : Type 0 where
  pub names : AsmArgs
  pub object : ObjectData

-- the parts, the name of the layout and what it says, and the name of the executable and its image
pub record BuildData : Type 0 where
  pub parts : List BuildPartData
  pub layout : List ℕ
  pub rules : LayoutData
  pub elf : List ℕ
  pub image : ImageData

-- the names of the objects of a build's parts
abbrev pub object_names : List BuildPartData → List (List ℕ)
object_names parts = map (λ p. (p.names).object) parts

-- the objects of a build's parts, in their order
abbrev pub objects_of_parts : List BuildPartData → List ObjectData
objects_of_parts parts = map (λ p. p.object) parts

-- ---- the commands, and what they report
-- the command `asm` of a part of a build
abbrev pub asm_command : BuildPartData → Command
asm_command p = asm p.names

-- `asm` of each source, then `link` of the objects, then `dis` of the executable
abbrev pub build_commands : BuildData → List Command
build_commands b =
    map asm_command b.parts
    ++ link (record { layout = b.layout; image = b.elf; objects = object_names b.parts }) ∷ dis b.elf ∷ []

-- the report of a part's `asm`: the object is written, and its size in bytes is printed
abbrev pub asm_report : BuildPartData → Report
asm_report p = report_with_file (p.names).object (bytes_of_object p.object) (assembled_object_line (length (bytes_of_object p.object)))

-- the objects, the executable and the listing, in this order
abbrev pub build_reports : BuildData → List Report
build_reports b =
    map asm_report b.parts ++ report_with_file b.elf (elf_file b.image) (linked_image_line (length (elf_file b.image))) ∷ text_report Done (listing_of b.image) ∷ []

-- ---- what is asked of them
-- the source is held and breaks no rule, and its object isn't longer than what `link` reads
pub record IsBuildPart (held : Option FileMap) (p : BuildPartData) : Type 0 where
  pub source : HoldsInput source_form held (p.names).source p.object
  pub short : length (bytes_of_object p.object) ≤ 2 ^ 24

-- no object of a build has the name of another object, of a source or of the layout
pub record HasDistinctNames (b : BuildData) : Type 0 where
  pub different : are_distinct_names (object_names b.parts) ≡ true
  pub sources : All (λ p. All (λ q. (p.names).object ≢ (q.names).source) b.parts) b.parts
  pub layout : All (λ p. (p.names).object ≢ b.layout) b.parts

-- The sources and the layout of a build are held, and the objects can be linked by the layout.
-- Their image isn't longer than what `dis` reads.
pub record IsBuild (held : Option FileMap) (b : BuildData) : Type 0 where
  pub parts : All (IsBuildPart held) b.parts
  pub apart : HasDistinctNames b
  pub layout : HoldsInput layout_form held b.layout b.rules
  pub linked_is : image_of_objects (objects_of_parts b.parts) b.rules ≡ Ok b.image
  pub short : length (elf_file b.image) ≤ 2 ^ 24

-- ---- the laws
-- the law that each command of a build has its inputs and can only report this, which is done
abbrev pub BuildCommandsReportSurely : Type 0
BuildCommandsReportSurely = (b : BuildData) (held : Option FileMap) → IsSome held → IsBuild held b → ReportSurelyInSequence (build_commands b) held (build_reports b)

-- the law that a build, over steady files with room for all that is printed, ends Done or out of
-- memory
abbrev pub BuildsEndWithoutFault : Type 0
BuildsEndWithoutFault =
    (b : BuildData) (files files' : FilesSeen) (sink sink' : SinkSeen) (result : Status)
    → IsTrue files.steady → IsSome files.held → IsBuild files.held b → HasRoomFor sink (all_report_texts (build_reports b))
    → EndInSequence (build_commands b) files files' sink sink' result → SequenceEndsWithoutFault (build_reports b) files files' sink sink' result
