-- `asm`, `link` and `dis` with what they read.
use Rattle.std.proofs.Common.{◌≡◌, ℕ, List, length, Some, Result, Ok, refl, ap, ◌∙◌}
use Rattle.elf_image.specs.Images.{ImageData}
use Rattle.elf_image.specs.WrittenElf.{elf_file}
use Rattle.tc_object.specs.Objects.{ObjectData}
use Rattle.tc_object.specs.Spelling.{bytes_of_object}
use Rattle.tc_link.specs.Layouts.{LayoutData}
use Rattle.tc_link.specs.Linked.{image_of_objects}
use Rattle.tc_link.specs.Refusals.{Refusal}
use Rattle.tc_disasm.specs.Listing.{listing_of}
use Rattle.tcd_base.specs.Files.{FileMap}
use Rattle.tcd_reading.specs.Reports.{Report, text_report, report_with_file}
use Rattle.tcd_reading.specs.Inputs.{HoldsInput, input_files, answer}
use Rattle.tcd_reading.specs.declared.status.Status.TheVariants.{Done}
use Rattle.tcd_forms.specs.Forms.{source_form, object_form, layout_form, elf_form}
use Rattle.tcd_forms.specs.Lines.{assembled_object_line, linked_image_line}
use Rattle.tcd_forms.proofs.FormLaws.{ok_err, source_lawful, object_lawful, layout_lawful, elf_lawful}
use Rattle.tcd_driver.specs.Asm.{AsmArgs, WritesObject, asm_reading}
use Rattle.tcd_driver.specs.Link.{LinkArgs, IsLinkReport, refused, image, link_reading}
use Rattle.tcd_driver.specs.Dis.{IsDisReport, dis_reading}
use Rattle.tcd_laws.specs.Sequences.{ReportsSurely}
use Rattle.tcd_laws.specs.HandedFiles.{HoldEachInput}
use Rattle.tcd_laws.proofs.HeldFiles.{sure_input, sure_each, sure_answer}

abbrev pub object_report : List ℕ → ObjectData → Report
object_report name object = report_with_file name (bytes_of_object object) (assembled_object_line (length (bytes_of_object object)))

-- one report, which is done
pub sure_asm : (m : FileMap) (names : AsmArgs) (object : ObjectData) → HoldsInput source_form (Some m) names.source object → ReportsSurely (asm_reading names) (Some m) (object_report names.object object)
sure_asm m names object h =
    sure_input source_form m names.source object (λ o. answer (WritesObject names.object o)) (object_report names.object object) source_lawful h
    (sure_answer (WritesObject names.object object) (Some m) (object_report names.object object) refl (λ o e. e) refl)

same_image : (o : Result ImageData Refusal) (i j : ImageData) → o ≡ Ok i → o ≡ Ok j → i ≡ j
same_image o i j e f = cc

abbrev pub image_report : List ℕ → ImageData → Report
image_report name i = report_with_file name (elf_file i) (linked_image_line (length (elf_file i)))

only_image : (name : List ℕ) (l : LayoutData) (objects : List ObjectData) (i : ImageData) → image_of_objects objects l ≡ Ok i → (o : Report) → IsLinkReport name l objects o → o ≡ image_report name i
only_image name l objects i is o (refused r e f) = absurd (ok_err (image_of_objects objects l) i r is e)
only_image name l objects i is o (image j e f) = f ∙ ap (λ (x : ImageData). report_with_file name (elf_file x) (linked_image_line (length (elf_file x)))) (same_image (image_of_objects objects l) j i e is)

pub sure_link : (m : FileMap) (names : LinkArgs) (l : LayoutData) (objects : List ObjectData) (i : ImageData) → HoldsInput layout_form (Some m) names.layout l → HoldEachInput object_form 0 (Some m) names.objects objects → image_of_objects objects l ≡ Ok i →
    ReportsSurely (link_reading names) (Some m) (image_report names.image i)
sure_link m names l objects i is_layout are is =
    sure_input layout_form m names.layout l (λ l. input_files ObjectData object_form 0 names.objects (λ os. answer (IsLinkReport names.image l os))) (image_report names.image i) layout_lawful is_layout
    (sure_each object_form 0 m names.objects objects (λ os. answer (IsLinkReport names.image l os)) (image_report names.image i) object_lawful are
    (sure_answer (IsLinkReport names.image l objects) (Some m) (image_report names.image i) (image i is refl) (only_image names.image l objects i is) refl))

pub sure_dis : (m : FileMap) (elf : List ℕ) (i : ImageData) → HoldsInput elf_form (Some m) elf i → ReportsSurely (dis_reading elf) (Some m) (text_report Done (listing_of i))
sure_dis m elf i h =
    sure_input elf_form m elf i (λ x. answer (IsDisReport x)) (text_report Done (listing_of i)) elf_lawful h (sure_answer (IsDisReport i) (Some m) (text_report Done (listing_of i)) refl (λ o e. e) refl)
