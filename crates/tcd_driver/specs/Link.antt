-- What `link` reads, reports and writes.
use Rattle.std.specs.Prelude.{◌≡◌, ℕ, List, length, Ok, Err}
use Rattle.elf_image.specs.Images.{ImageData}
use Rattle.elf_image.specs.WrittenElf.{elf_file}
use Rattle.tc_object.specs.Objects.{ObjectData}
use Rattle.tc_link.specs.Layouts.{LayoutData}
use Rattle.tc_link.specs.Linked.{image_of_objects}
use Rattle.tc_link.specs.Refusals.{Refusal}
use Rattle.tcd_reading.specs.Reports.{Report, text_report, report_with_file}
use Rattle.tcd_reading.specs.Inputs.{Reading, input, input_files, answer}
use Rattle.tcd_forms.specs.Forms.{layout_form, object_form}
use Rattle.tcd_forms.specs.Lines.{bad_link_line, linked_image_line}
use Rattle.tcd_reading.specs.declared.status.Status.TheVariants.{BadInput}

-- the names of the layout and of the objects that `link` reads, and of the image that it writes
pub record LinkArgs : Type 0 where
  pub layout : List ℕ
  pub image : List ℕ
  pub objects : List (List ℕ)

-- `link` reports an image, and writes its file under this name
abbrev pub WritesImage : List ℕ → ImageData → Report → Type 0
WritesImage name image report = report ≡ report_with_file name (elf_file image) (linked_image_line (length (elf_file image)))

-- the report of `link` on objects and a layout: the image to write, or the first reason why they
-- can't be linked
pub data IsLinkReport (name : List ℕ) (layout : LayoutData) (objects : List ObjectData) (report : Report) : Type 0 where
  refused : (r : Refusal) → image_of_objects objects layout ≡ Err r → report ≡ text_report BadInput (bad_link_line r) → IsLinkReport name layout objects report
  image : (i : ImageData) → image_of_objects objects layout ≡ Ok i → WritesImage name i report → IsLinkReport name layout objects report

-- what `link` reads after its layout, and reports: the objects of these names are read; then they
-- are linked to an image of this name
abbrev pub link_objects_reading : List ℕ → LayoutData → List (List ℕ) → Reading
link_objects_reading name layout object_names = input_files ObjectData object_form 0 object_names (λ objects. answer (IsLinkReport name layout objects))

-- a layout and the objects are read; then they are linked
abbrev pub link_reading : LinkArgs → Reading
link_reading names = input LayoutData layout_form names.layout (λ layout. link_objects_reading names.image layout names.objects)
