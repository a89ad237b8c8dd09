-- Laws of sources and of the images that are linked from their objects.
use Rattle.std.specs.Prelude.{◌≡◌, ◌<◌, ◌+◌, ◌⊎◌, nat_lt, ℕ, true, List, ◌∷◌, length, map, filter, slice_get, Some, Ok, ◌%◌, ◌^◌, []}
use Rattle.elf_image.specs.Images.{ImageData}
use Rattle.tc_isa.specs.declared.fields.Fields.{Fields}
use Rattle.tc_isa.specs.Rows.{RowData, table_rows}
use Rattle.tc_isa.specs.ValidRowFields.{FieldsFitRow}
use Rattle.tc_isa.specs.Spelling.{spelling}
use Rattle.tc_isa.specs.Relocations.{is_relocation_kind}
use Rattle.tc_reloc.specs.Fields.{reloc_field_bound, with_reloc_field}
use Rattle.tc_stmt.specs.Items.{ReferenceData}
use Rattle.tc_object.specs.Objects.{ObjectData}
use Rattle.tc_stmt.specs.Lines.{lines_in}
use Rattle.tc_asm.specs.DraftedSources.{symbols_of_lines, draft_in, symbols_in}
use Rattle.tc_asm.specs.Rules.{LinesKeepRules}
use Rattle.tc_asm.specs.Objects.{object_of_draft}
use Rattle.tc_asm.specs.Statements.{StatementData, statement_offset, statements_in}
use Rattle.tc_link.specs.Layouts.{LayoutData, IsLayout, PlaceData}
use Rattle.tc_link.specs.Linked.{image_of_objects}
use Rattle.tc_program.specs.Addresses.{program_sections, SectionHasAddress, GlobalHasAddress, NameHasAddress}
use Rattle.tc_program.specs.Placed.{segment_range, place_range, Placed, placed_symbol_value}
use Rattle.tc_asm.specs.InstructionLaws.{InstructionSpellsRow}
use Rattle.tc_asm.specs.ShortJumpLaws.{short_jump_displacement}

-- the objects are those of these sources, one for each in order, and no source breaks a rule
abbrev pub AreAssembledFrom : List (List ℕ) → List ObjectData → Type 0
AreAssembledFrom [] [] = Unit {0}
AreAssembledFrom [] (o ∷ os) = ⊥
AreAssembledFrom (x ∷ xs) [] = ⊥
AreAssembledFrom (x ∷ xs) (o ∷ os) = (LinesKeepRules (lines_in x) (length (lines_in x)) × (o ≡ object_of_draft (draft_in x))) × AreAssembledFrom xs os

-- law of linking: in an image linked from assembled sources, each place of the layout with bytes is
-- one segment
abbrev pub PlacesBecomeSegments : Type 0
PlacesBecomeSegments = (sources : List (List ℕ)) (objects : List ObjectData) (layout : LayoutData) (image : ImageData) → AreAssembledFrom sources objects → image_of_objects objects layout ≡ Ok image
    → map segment_range image.segments ≡ filter (λ s. nat_lt 0 s.size) (map (place_range (program_sections sources)) layout.places)

-- law of linking: in an image linked from assembled sources, the entry is the address of the
-- layout's entry symbol
abbrev pub EntryIsSymbolAddress : Type 0
EntryIsSymbolAddress = (sources : List (List ℕ)) (objects : List ObjectData) (layout : LayoutData) (image : ImageData) → AreAssembledFrom sources objects → image_of_objects objects layout ≡ Ok image
    → GlobalHasAddress layout.places sources layout.entry image.entry

-- law of linking: an image linked from assembled sources by a layout has each statement's bytes at
-- its address
abbrev pub LinkedImagesArePlaced : Type 0
LinkedImagesArePlaced = (sources : List (List ℕ)) (objects : List ObjectData) (layout : LayoutData) (image : ImageData) → IsLayout layout → AreAssembledFrom sources objects → image_of_objects objects layout ≡ Ok image
    → Placed sources layout image

-- law of placing a source: the symbols that its jumps of 16 bits are resolved by are those of all
-- its lines
abbrev pub SymbolsAreOfWholeSource : Type 0
SymbolsAreOfWholeSource = (source : List ℕ) → symbols_of_lines (lines_in source) ≡ symbols_in source

-- ---- filled fields
-- the law of placing a source, at one statement: the bytes spell an instruction of a listed row,
-- and with any number that the field of this kind can hold, the one with that constant
pub record SourceFieldFillsRow (kind : ℕ) (bytes : List ℕ) : Type 0 where
  pub place : ℕ
  pub row : RowData
  pub is_row : slice_get table_rows place ≡ Some row
  pub fields : Fields
  pub fits : FieldsFitRow row fields
  pub spelled : bytes ≡ spelling row fields
  pub filled : (n : ℕ) → n < reloc_field_bound kind → FieldsFitRow row (record fields { k = n }) × (with_reloc_field kind bytes n ≡ spelling row (record fields { k = n }))

-- law of placing a source: the bytes of a statement that waits for an address are a word of data,
-- or an instruction whose constant is to be filled
abbrev pub UnresolvedFieldsAreFillable : Type 0
UnresolvedFieldsAreFillable = (source : List ℕ) (index : ℕ) (t : StatementData) (r : ReferenceData) → slice_get (statements_in source) index ≡ Some t → t.reference ≡ Some r → is_relocation_kind r.kind ≡ true → (r.kind ≡ 7) ⊎ SourceFieldFillsRow r.kind t.bytes

-- ---- jumps of 16 bits

-- the law of placed jumps, at one jump or call of 16 bits: the displacement that its bytes spell
-- goes to the address of its name in the source, plus the number that is added
pub record PlacedJumpReaches (places : List PlaceData) (sources : List (List ℕ)) (number : ℕ) (r : ReferenceData) (at : ℕ) (bytes : List ℕ) : Type 0 where
  pub place : ℕ
  pub spells : InstructionSpellsRow place bytes
  pub address : ℕ
  pub means : NameHasAddress places sources number r.name address
  pub is : (at + short_jump_displacement spells.row spells.fields) % 2 ^ 32 ≡ placed_symbol_value address r

-- law of linking: each jump or call of 16 bits, which takes no relocation, reaches the address of
-- its name in the source
abbrev pub ShortJumpsReachTargets : Type 0
ShortJumpsReachTargets = (sources : List (List ℕ)) (objects : List ObjectData) (layout : LayoutData) (number index : ℕ) (source : List ℕ) (t : StatementData) (r : ReferenceData) (base : ℕ)
    → AreAssembledFrom sources objects → slice_get sources number ≡ Some source → slice_get (statements_in source) index ≡ Some t → t.reference ≡ Some r → r.kind ≡ 0
    → SectionHasAddress layout.places sources number t.section base
    → PlacedJumpReaches layout.places sources number r (base + statement_offset (statements_in source) index t.section) t.bytes
