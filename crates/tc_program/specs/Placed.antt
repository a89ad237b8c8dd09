-- The addresses of the statements of sources in an image that was linked from them.
use Rattle.std.specs.Prelude.{◌≡◌, ◌≤◌, ◌<◌, ◌+◌, ◌%◌, ◌^◌, ◌⊎◌, nat_lt, ℕ, true, false, List, length, map, filter, slice_get, Some, None}
use Rattle.elf_image.specs.Images.{SegmentData, ImageData, image_byte, HoldsBytesFrom}
use Rattle.tc_isa.specs.Relocations.{is_relocation_kind}
use Rattle.tc_reloc.specs.Refusals.{reloc_value_refusal}
use Rattle.tc_reloc.specs.Fields.{reloc_field_number, with_reloc_field}
use Rattle.tc_stmt.specs.Items.{ReferenceData}
use Rattle.tc_object.specs.Objects.{SectionData}
use Rattle.tc_asm.specs.Objects.{assembled_addend}
use Rattle.tc_asm.specs.Statements.{StatementData, statement_offset, statements_in, has_unresolved_symbol}
use Rattle.tc_link.specs.Layouts.{PlaceData, LayoutData}
use Rattle.tc_link.specs.PlaceSizes.{used_place_size}
use Rattle.tc_program.specs.Addresses.{program_sections, SectionHasAddress, GlobalHasAddress, NameHasAddress}

-- ---- bytes
-- the value that linking writes into a statement's field: the address of its symbol plus the
-- addend, modulo 2^32
abbrev pub placed_symbol_value : ℕ → ReferenceData → ℕ
placed_symbol_value address r = (address + assembled_addend r) % 2 ^ 32

-- The bytes of a source statement at its address in the linked image. They are its data or
-- instruction, with the field of a symbol filled to reach the symbol's address plus the addend.
pub data ArePlacedStatementBytes (places : List PlaceData) (sources : List (List ℕ)) (number : ℕ) (t : StatementData) (at : ℕ) : List ℕ → Type 0 where
  plain : has_unresolved_symbol t.reference ≡ false → ArePlacedStatementBytes places sources number t at t.bytes
  filled :
      (r : ReferenceData) (address : ℕ) → t.reference ≡ Some r → is_relocation_kind r.kind ≡ true → length t.bytes ≡ 4 → NameHasAddress places sources number r.name address
      → reloc_value_refusal r.kind at (placed_symbol_value address r) ≡ None
      → ArePlacedStatementBytes places sources number t at (with_reloc_field r.kind t.bytes (reloc_field_number r.kind at (placed_symbol_value address r)))

-- the image holds the bytes of the source statement with this index at its address, after the
-- earlier ones of its section
pub record StatementIsPlaced (places : List PlaceData) (sources : List (List ℕ)) (image : ImageData) (number index : ℕ) (ts : List StatementData) (t : StatementData) : Type 0 where
  pub base : ℕ
  pub begins : SectionHasAddress places sources number t.section base
  pub bytes : List ℕ
  pub are : ArePlacedStatementBytes places sources number t (base + statement_offset ts index t.section) bytes
  pub there : HoldsBytesFrom image (base + statement_offset ts index t.section) bytes

-- an address in the linked image is within the bytes of a source statement
pub record IsInPlacedStatement (places : List PlaceData) (sources : List (List ℕ)) (q : ℕ) : Type 0 where
  pub number : ℕ
  pub source : List ℕ
  pub is_source : slice_get sources number ≡ Some source
  pub index : ℕ
  pub statement : StatementData
  pub is_statement : slice_get (statements_in source) index ≡ Some statement
  pub base : ℕ
  pub begins : SectionHasAddress places sources number statement.section base
  pub low : base + statement_offset (statements_in source) index statement.section ≤ q
  pub high : q < base + statement_offset (statements_in source) index statement.section + length statement.bytes

-- ---- images
-- the address of a segment of an image, and the number of its bytes
pub record SegmentRangeData : Type 0 where
  pub at : ℕ
  pub size : ℕ

-- the address of a segment of an image, and the number of its bytes
abbrev pub segment_range : SegmentData → SegmentRangeData
segment_range s = record { at = s.at; size = length s.bytes }

-- the address of a layout's place, and the number of bytes that these sections use there
abbrev pub place_range : List SectionData → PlaceData → SegmentRangeData
place_range sections p = record { at = p.at; size = used_place_size p.section sections }

-- The image holds the sources, laid out by the layout:
-- - Each place with bytes is one segment at its address, in the layout's order.
-- - Each statement with bytes is at its address, with the addresses of its symbols filled in.
-- - All other bytes are 0.
-- - The entry is the address of the layout's entry symbol.
pub record Placed (sources : List (List ℕ)) (layout : LayoutData) (image : ImageData) : Type 0 where
  pub segments : map segment_range image.segments ≡ filter (λ s. nat_lt 0 s.size) (map (place_range (program_sections sources)) layout.places)
  pub statements : (number index : ℕ) (source : List ℕ) (t : StatementData) → slice_get sources number ≡ Some source → slice_get (statements_in source) index ≡ Some t → 0 < length t.bytes
      → StatementIsPlaced layout.places sources image number index (statements_in source) t
  pub zero : (q b : ℕ) → image_byte image q ≡ Some b → IsInPlacedStatement layout.places sources q ⊎ (b ≡ 0)
  pub entry : GlobalHasAddress layout.places sources layout.entry image.entry
