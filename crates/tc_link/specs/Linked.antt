-- The result of linking objects by a layout: an image, or the first refusal.
use Rattle.std.specs.Prelude.{ℕ, List, Option, Some, None, Result, Ok, Err}
use Rattle.tcd_base.specs.Refusing.{unless_refused}
use Rattle.tc_object.specs.Objects.{ObjectData}
use Rattle.elf_image.specs.Images.{ImageData}
use Rattle.tc_link.specs.Layouts.{PlaceData, LayoutData}
use Rattle.tc_link.specs.Placing.{PlacedData, placed_in_layout}
use Rattle.tc_link.specs.GlobalSymbols.{globals_of, first_global_address}
use Rattle.tc_link.specs.Relocated.{all_relocated_sections}
use Rattle.tc_link.specs.Segments.{segments_of}
use Rattle.tc_link.specs.Refusals.{Refusal, no_entry, first_reloc_refusal, refusal_before_relocs}

-- the image with this entry address; a refusal if the entry is no global symbol
abbrev pub image_with_entry : Option ℕ → List PlaceData → List PlacedData → Result ImageData Refusal
image_with_entry None places placed = Err no_entry
image_with_entry (Some address) places placed = Ok (record { entry = address; segments = segments_of places (all_relocated_sections placed) })

-- the image of placed objects with their relocations applied; refused if the entry is no global
-- symbol
abbrev pub image_of_placed : LayoutData → List PlacedData → Result ImageData Refusal
image_of_placed layout placed = image_with_entry (first_global_address (globals_of placed) layout.entry) layout.places placed

-- the first relocation that is refused, or else the image of placed objects
abbrev pub image_or_reloc_refusal : LayoutData → List PlacedData → Result ImageData Refusal
image_or_reloc_refusal layout placed = unless_refused (first_reloc_refusal (globals_of placed) placed) (image_of_placed layout placed)

-- the image that linking these objects by the layout gives, or the first refusal
unfoldable pub image_of_objects : List ObjectData → LayoutData → Result ImageData Refusal
image_of_objects objects layout = unless_refused (refusal_before_relocs layout objects) (image_or_reloc_refusal layout (placed_in_layout layout objects))
