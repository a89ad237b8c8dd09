-- What sources, layouts and links keep: objects, layouts and images have the limits that those who
-- read them promise.
use Rattle.std.specs.Prelude.{◌≡◌, ◌<◌, ◌^◌, ℕ, List, length, All, Ok}
use Rattle.elf_image.specs.Images.{ImageData, IsImage}
use Rattle.tc_object.specs.Objects.{SectionData, ObjectData, IsObject}
use Rattle.tc_object.specs.Spelling.{bytes_of_object}
use Rattle.tc_stmt.specs.Lines.{lines_in}
use Rattle.tc_asm.specs.DraftedSources.{draft_in}
use Rattle.tc_asm.specs.Rules.{LinesKeepRules}
use Rattle.tc_asm.specs.Objects.{object_of_draft}
use Rattle.tc_link.specs.Layouts.{LayoutData, IsLayout}
use Rattle.tc_link.specs.LayoutFaults.{layout_of}
use Rattle.tc_link.specs.Linked.{image_of_objects}

-- one of the limits that sources, layouts and links keep: a byte is a number of at most eight bits
abbrev pub IsByte : ℕ → Type 0
IsByte b = b < 2 ^ 8

-- a limit that assembling keeps, and that writing and linking rely on: a section holds bytes,
-- numbers of at most eight bits
abbrev pub SectionHoldsBytes : SectionData → Type 0
SectionHoldsBytes s = All IsByte s.bytes

-- the object keeps the limits of objects, and its sections those of bytes
pub record IsObjectOfBytes (o : ObjectData) : Type 0 where
  pub object : IsObject o
  pub bytes : All SectionHoldsBytes o.sections

-- assembling keeps limits: the object of a source that breaks no rule is an object, whose sections
-- hold bytes
abbrev pub SourcesGiveObjects : Type 0
SourcesGiveObjects = (source : List ℕ) → LinesKeepRules (lines_in source) (length (lines_in source)) → IsObjectOfBytes (object_of_draft (draft_in source))

-- writing objects keeps limits: the file of an object whose sections hold bytes holds bytes
abbrev pub ObjectFilesHoldBytes : Type 0
ObjectFilesHoldBytes = (o : ObjectData) → IsObjectOfBytes o → All IsByte (bytes_of_object o)

-- reading keeps limits: what a text gives without a fault is a layout
abbrev pub TextsGiveLayouts : Type 0
TextsGiveLayouts = (text : List ℕ) (layout : LayoutData) → layout_of text ≡ Ok layout → IsLayout layout

-- linking keeps limits: what objects are linked to by a layout is an image
abbrev pub LinksGiveImages : Type 0
LinksGiveImages =
    (objects : List ObjectData) (layout : LayoutData) (image : ImageData) → All IsObjectOfBytes objects → IsLayout layout
    → image_of_objects objects layout ≡ Ok image → IsImage image
