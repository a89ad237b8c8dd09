-- What it means that `asm`, `link` and `ship` are done, and that `ship` refuses.
use Rattle.std.specs.Prelude.{◌≡◌, ◌^◌, ℕ, List, ◌∷◌, ◌++◌, codes, length, Ok, ◌≢◌, ◌-◌, map, Some, []}
use Rattle.std.specs.Fmt.{decimal}
use Rattle.elf_image.specs.Images.{ImageData}
use Rattle.elf_image.specs.WrittenElf.{elf_file}
use Rattle.tc_object.specs.Objects.{ObjectData}
use Rattle.tc_object.specs.Grammar.{object_of}
use Rattle.tc_object.specs.Spelling.{bytes_of_object}
use Rattle.tc_link.specs.Layouts.{LayoutData}
use Rattle.tc_link.specs.Linked.{image_of_objects}
use Rattle.tcd_base.specs.Files.{FileMap}
use Rattle.tcd_forms.specs.Forms.{IsSource, SourceData}
use Rattle.tcd_driver.specs.Headlines.{certified_line_text, HoldsFile, HoldEachFile, IsOnlyFileWritten, HoldsPlan, IsBestWithNeed, refused_line_text}
use Rattle.std.specs.FinMap.{get}
use Rattle.elf_image.specs.ReadElf.{image_of_file}
use Rattle.tcd_plan.specs.PlanData.{PlanData}
use Rattle.depth_cert.specs.declared.keys.Key.{Key}
use Rattle.depth_cert.specs.Certs.{CertData}
use Rattle.depth_cert.specs.Spelling as certs
use Rattle.tc_program.specs.Placed.{Placed}
use Rattle.tcd_driver.specs.BestCert.{NoCertIsAccepted}
use Rattle.tc_link.specs.LayoutFaults.{layout_of}

-- ---- asm
-- `asm` is done: the source breaks no rule, and OBJ now holds the bytes of its object.
pub record HeadlineOfAsm (source_name object_name : List ℕ) (before after : FileMap) (printed : List ℕ) : Type 0 where
  pub object : ObjectData
  pub source_file : HoldsFile before source_name (2 ^ 24) (λ bytes. IsSource bytes object)
  pub writes : IsOnlyFileWritten before after object_name (bytes_of_object object)
  pub prints : printed ≡ codes "object " ++ (decimal (length (bytes_of_object object)) ++ (codes " bytes" ++ 10 ∷ []))

-- ---- link
-- the bytes of a file that `link` reads are this object
abbrev pub AreObjectBytes : List ℕ → ObjectData → Type 0
AreObjectBytes bytes object = object_of bytes ≡ Ok object

-- the name holds this layout, by which `link` or `ship` builds an image
abbrev pub HoldsLayout : FileMap → List ℕ → LayoutData → Type 0
HoldsLayout m name layout = HoldsFile m name (2 ^ 24) (λ bytes. layout_of bytes ≡ Ok layout)

-- the files that `link` reads: the names hold this layout and these objects
pub record AreLinkFiles (before : FileMap) (layout_name : List ℕ) (object_names : List (List ℕ)) (layout : LayoutData) (objects : List ObjectData) : Type 0 where
  pub layout_file : HoldsLayout before layout_name layout
  pub object_files : HoldEachFile before (2 ^ 24) AreObjectBytes object_names objects

-- `link` is done: ELF now holds the bytes of the image that the objects are linked to by the
-- layout.
pub record HeadlineOfLink (layout_name elf_name : List ℕ) (object_names : List (List ℕ)) (before after : FileMap) (printed : List ℕ) : Type 0 where
  pub layout : LayoutData
  pub objects : List ObjectData
  pub image : ImageData
  pub files : AreLinkFiles before layout_name object_names layout objects
  pub linked : image_of_objects objects layout ≡ Ok image
  pub writes : IsOnlyFileWritten before after elf_name (elf_file image)
  pub prints : printed ≡ codes "image " ++ (decimal (length (elf_file image)) ++ (codes " bytes" ++ 10 ∷ []))

-- ---- ship

-- in the headline of `ship`: the text of a source, and the object that it is assembled to
pub record IsSourceText (bytes : List ℕ) (source : SourceData) : Type 0 where
  pub text : source.text ≡ bytes
  pub object : IsSource bytes source.object

-- a plan, a layout and sources: the objects of the sources are linked to the image by the layout,
-- and each of their statements has its bytes in the image
pub record IsImageOfFiles (before : FileMap) (plan_name layout_name : List ℕ) (source_names : List (List ℕ)) (plan : PlanData) (image : ImageData) : Type 0 where
  pub layout : LayoutData
  pub sources : List SourceData
  pub plan_file : HoldsPlan before plan_name plan
  pub layout_file : HoldsLayout before layout_name layout
  pub source_files : HoldEachFile before (2 ^ 24) IsSourceText source_names sources
  pub linked : image_of_objects (map (λ source. source.object) sources) layout ≡ Ok image
  pub placed : Placed (map (λ source. source.text) sources) layout image

-- `ship` is done: ELF and CERT are different names. ELF now holds the image of the sources, and its
-- bytes read back as it. CERT now holds the best certificate for this image. Each other name holds
-- what it held.
pub record HeadlineOfShip (plan_name layout_name elf_name cert_name : List ℕ) (source_names : List (List ℕ)) (before after : FileMap) (printed : List ℕ) : Type 0 where
  pub plan : PlanData
  pub image : ImageData
  pub cert : CertData
  pub need : ℕ
  pub apart : elf_name ≢ cert_name
  pub image_is : IsImageOfFiles before plan_name layout_name source_names plan image
  pub image_reads : image_of_file (elf_file image) ≡ Ok image
  pub best : IsBestWithNeed image plan cert need
  pub elf_written : get after elf_name ≡ Some (elf_file image)
  pub cert_written : get after cert_name ≡ Some (certs.bytes_of_cert cert)
  pub others : (other : List ℕ) → other ≢ elf_name → other ≢ cert_name → get after other ≡ get before other
  pub prints : printed ≡ certified_line_text need (plan.areas - plan.reserve)

-- `ship` refuses: no certificate is accepted for the image of the sources.
pub record RefusalByShip (plan_name layout_name : List ℕ) (source_names : List (List ℕ)) (before after : FileMap) (printed : List ℕ) : Type 0 where
  pub plan : PlanData
  pub image : ImageData
  pub rule : ℕ
  pub frame : Key
  pub address : ℕ
  pub image_is : IsImageOfFiles before plan_name layout_name source_names plan image
  pub none : NoCertIsAccepted image plan rule frame address
  pub prints : printed ≡ refused_line_text rule frame address
  pub stays : after ≡ before
