-- What it means that `asm` and `link` are done.
use Rattle.std.proofs.Common.{◌^◌, List, [], ◌∷◌, refl, inl}
use Rattle.std.specs.FinMap.{insert}
use Rattle.elf_image.specs.WrittenElf.{elf_file}
use Rattle.tc_object.specs.Objects.{ObjectData}
use Rattle.tc_object.specs.Spelling.{bytes_of_object}
use Rattle.tc_link.specs.Layouts.{LayoutData}
use Rattle.tcd_base.specs.Files.{FileMap}
use Rattle.tcd_reading.specs.Reports.{Report}
use Rattle.tcd_forms.specs.Forms.{object_form, IsSource}
use Rattle.tcd_forms.specs.Lines.{assembled_object_line, linked_image_line}
use Rattle.tcd_driver.specs.Asm.{AsmArgs, WritesObject}
use Rattle.tcd_driver.specs.Link as linking
use Rattle.tcd_driver.specs.Link.{LinkArgs, IsLinkReport}
use Rattle.tcd_driver.specs.Headlines.Builds.{HeadlineOfAsm, AreObjectBytes, AreLinkFiles, HeadlineOfLink}
use Rattle.tcd_driver.proofs.Headlines.{Tells, is_written, Means, held_as, is_bad, is_done, means_as}
use Rattle.tcd_driver.specs.Headlines.{HoldsFile}
use Rattle.tcd_driver.specs.Tool.{NeverRefuses}
use Rattle.tcd_driver.specs.Headlines.Asks.{are_linked}

-- ---- asm
pub asm_means : (names : AsmArgs) (m : FileMap) (o : ObjectData) (r : Report) → HoldsFile m names.source (2 ^ 24) (λ bytes. IsSource bytes o) → WritesObject names.object o r → Means m [] (HeadlineOfAsm names.source names.object) NeverRefuses r
unfolding assembled_object_line
asm_means names m o r source e = means_as e (is_done (insert m names.object (bytes_of_object o)) refl refl (record {
  object = o;
  source_file = source;
  writes = is_written m names.object (bytes_of_object o);
  prints = refl;
}))

-- ---- link
pub object_told : Tells object_form (2 ^ 24) AreObjectBytes
object_told place m name x h = held_as (object_form place) m name x h

pub link_means : (names : LinkArgs) (m : FileMap) (l : LayoutData) (os : List ObjectData) (r : Report) → AreLinkFiles m names.layout names.objects l os → IsLinkReport names.image l os r →
    Means m (are_linked names.layout names.objects ∷ []) (HeadlineOfLink names.layout names.image names.objects) NeverRefuses r
unfolding linked_image_line
link_means names m l os r files (linking.refused why is e) = means_as e (is_bad refl refl (inl (l, os, why, files, is, refl)))
link_means names m l os r files (linking.image i is e) = means_as e (is_done (insert m names.image (elf_file i)) refl refl (record {
  layout = l;
  objects = os;
  image = i;
  files = files;
  linked = is;
  writes = is_written m names.image (elf_file i);
  prints = refl;
}))
