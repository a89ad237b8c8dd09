-- The draft of an object, as the lines of a source build it.
use Rattle.std.specs.Prelude.{ℕ, ◌+◌, ◌-◌, ◌^◌, ◌==◌, ◌&&◌, not, nat_lt, nat_le, Bool, true, false, if◌then◌else◌, List, ◌∷◌, ◌++◌, length, replicate, slice_get, slice_set, Option, Some, None, position, unwrap_or, map, sum_by, zero, suc, []}
use Rattle.std.specs.Option.{option_map_or}
use Rattle.std.specs.Str.{bytes_eq}
use Rattle.tc_stmt.specs.SourceRules.{no_rule, misplaced_symbol}
use Rattle.tc_isa.specs.declared.fields.Fields.{Fields}
use Rattle.tc_isa.specs.Rows.{RowData, table_rows, is_32_bit_row}
use Rattle.tc_isa.specs.Spelling.{spelling}
use Rattle.tc_isa.specs.Relocations.{is_relocation_kind}
use Rattle.tc_encode.specs.Decoding.{decoded_fields_fit}
use Rattle.tc_stmt.specs.Names.{is_source_name}
use Rattle.tc_stmt.specs.RowFields.{RowFieldsData, with_rule}
use Rattle.tc_stmt.specs.Items.{ReferenceData, ItemData, label, section, global, code, bytes, zeros}
use Rattle.tc_stmt.specs.Displacements.{with_displacement}
use Rattle.tc_asm.specs.declared.symbols.Place.{Place}
use Rattle.tc_asm.specs.Symbols.{SymbolData, place_in, with_name, with_symbol_label, with_global_symbol}

-- four bytes at an offset that wait for the value of a symbol
pub record UseData : Type 0 where
  pub offset : ℕ
  pub reference : ReferenceData

-- a section of a draft: its name, its bytes, and its uses of symbols
pub record DraftSectionData : Type 0 where
  pub name : List ℕ
  pub bytes : List ℕ
  pub uses : List UseData

-- A draft: the sections so far, the number of the current one, the symbols, and the numbers of
-- bytes and relocations in all sections. Without a current section, the number is that of no
-- section.
pub record DraftData : Type 0 where
  pub section : ℕ
  pub parts : List DraftSectionData
  pub symbols : List SymbolData
  pub total : ℕ
  pub count : ℕ

-- the draft before the first line: no section, no symbol
abbrev pub empty_draft : DraftData
empty_draft = record { section = 64; parts = []; symbols = []; total = 0; count = 0 }

-- the section with this name, these bytes, and these uses of symbols
abbrev pub draft_section : List ℕ → List ℕ → List UseData → DraftSectionData
draft_section name bs uses = record { name = name; bytes = bs; uses = uses }

-- the offset of the draft's next byte in its current section, and 0 if there is none
unfoldable pub next_byte_offset : DraftData → ℕ
next_byte_offset d = option_map_or (λ p. length p.bytes) (slice_get d.parts d.section) 0

-- there is a current section
abbrev pub has_current_section : DraftData → Bool
has_current_section d = nat_lt d.section (length d.parts)

-- a draft with n more bytes has no more than 16,777,216 in all its sections, so that they can be
-- added to it
abbrev pub has_room : DraftData → ℕ → Bool
has_room d n = nat_le (d.total + n) (2 ^ 24)

-- ---- labels and sections
-- the place of the draft's next byte: the number of its current section, and the offset there
abbrev pub next_byte_place : DraftData → Place
next_byte_place d = record { section = d.section; offset = next_byte_offset d }

-- The draft after a label at its next byte, if the label is a name. Before the first section the
-- line breaks a rule, but the label still defines its name.
unfoldable pub with_label : DraftData → List ℕ → DraftData
with_label d name = if is_source_name name then record d { symbols = with_symbol_label d.symbols name (next_byte_place d) } else d

-- the number of the section with this name, and the number of sections if none has it
abbrev pub section_number : List DraftSectionData → List ℕ → ℕ
section_number parts name = unwrap_or (position (λ p. bytes_eq name p.name) parts) (length parts)

-- the draft after a section's name: that section becomes the current one; a new one begins if there
-- are fewer than 64
unfoldable pub with_current_section : DraftData → List ℕ → DraftData
with_current_section d name =
    if not (is_source_name name) then d
    else (if nat_lt (section_number d.parts name) (length d.parts) then record d { section = section_number d.parts name }
    else (if nat_lt (length d.parts) 64 then record d { section = length d.parts; parts = d.parts ++ draft_section name [] [] ∷ [] }
    else d))

-- the draft after `.global` with this name: the name's symbol is global; a bad name changes nothing
unfoldable pub with_global : DraftData → List ℕ → DraftData
with_global d name = if is_source_name name then record d { symbols = with_global_symbol d.symbols name } else d

-- ---- bytes
-- the sections of a draft after bytes are added at the end of the one with this number
unfoldable pub with_section_bytes : List DraftSectionData → ℕ → List ℕ → List DraftSectionData
with_section_bytes parts i bs = option_map_or (λ p. slice_set parts i (record p { bytes = p.bytes ++ bs })) (slice_get parts i) parts

-- the draft after bytes are added at the end of its current section; nothing changes if there is
-- none, or if all sections would exceed 16,777,216 bytes
unfoldable pub with_bytes_if_room : DraftData → List ℕ → DraftData
with_bytes_if_room d bs =
    if has_current_section d && has_room d (length bs) then record d { parts = with_section_bytes d.parts d.section bs; total = d.total + length bs } else d

-- the sections of a draft after a further use of a symbol in the one with this number
unfoldable pub with_section_use : List DraftSectionData → ℕ → UseData → List DraftSectionData
with_section_use parts i u = option_map_or (λ p. slice_set parts i (record p { uses = p.uses ++ u ∷ [] })) (slice_get parts i) parts

-- the draft after its next `size` bytes use a symbol for a relocation; nothing changes if none is
-- needed, they aren't four, or there is no room for them or for one more relocation
unfoldable pub with_reloc_use : DraftData → ℕ → ReferenceData → DraftData
with_reloc_use d size r =
    if has_current_section d && has_room d size && size == 4 && is_relocation_kind r.kind && nat_lt d.count 65535
    then record d { parts = with_section_use d.parts d.section (record { offset = next_byte_offset d; reference = r }); count = d.count + 1 }
    else d

-- the draft of an object with the symbol of its next `size` bytes in its table and, if these bytes
-- need a relocation, among its uses; a bad name changes nothing
unfoldable pub with_reference : DraftData → ℕ → Option ReferenceData → DraftData
with_reference d size None = d
with_reference d size (Some r) = if is_source_name r.name then with_reloc_use (record d { symbols = with_name d.symbols r.name }) size r else d

-- the draft of the first pass with the symbol of a reference, if there is one, in its table: a use
-- by no bytes isn't noted, and a bad name changes nothing
abbrev pub with_symbol_of_reference : DraftData → Option ReferenceData → DraftData
with_symbol_of_reference d r = with_reference d 0 r

-- the draft after bytes are added at the end of its current section, with their symbol if they have
-- one
abbrev pub with_content : DraftData → List ℕ → Option ReferenceData → DraftData
with_content d bs r = with_bytes_if_room (with_reference d (length bs) r) bs

-- ---- instructions
-- the distance from the current place of a draft to a symbol, and whether the symbol is before it;
-- None if it is no label of this section
unfoldable pub label_distance : List SymbolData → DraftData → ReferenceData → Option (Bool × ℕ)
label_distance labels d r =
    option_map_or
    (λ (a : Place). if has_current_section d && a.section == d.section
    then (if nat_le (next_byte_offset d + (if r.minus then r.size else 0)) (a.offset + (if r.minus then 0 else r.size))
    then Some (false, (a.offset + (if r.minus then 0 else r.size)) - (next_byte_offset d + (if r.minus then r.size else 0)))
    else Some (true, (next_byte_offset d + (if r.minus then r.size else 0)) - (a.offset + (if r.minus then 0 else r.size))))
    else None)
    (place_in labels r.name) None

-- these fields of an instruction as fields of a row that break no rule and refer to no symbol
abbrev pub bare_row_fields : Fields → RowFieldsData
bare_row_fields f = record { fields = f; rule = no_rule; reference = None }

-- the fields with which a draft spells its next instruction, and the least rule that the target
-- breaks: the displacement is the distance from the draft's current place to the target
unfoldable pub fields_with_label_distance : List SymbolData → DraftData → RowData → Fields → ReferenceData → RowFieldsData
fields_with_label_distance labels d row f r = option_map_or (λ n. with_displacement row n.0 n.1 (bare_row_fields f)) (label_distance labels d r) (with_rule misplaced_symbol (bare_row_fields f))

-- the fields with which a draft spells its next instruction, of this row: its target is resolved
-- here, unless a relocation will fill it in
abbrev pub fields_with_target : List SymbolData → DraftData → RowData → Fields → Option ReferenceData → RowFieldsData
fields_with_target labels d row f None = bare_row_fields f
fields_with_target labels d row f (Some r) = if r.kind == 0 then fields_with_label_distance labels d row f r else bare_row_fields f

-- the bytes that the assembler's draft of an object gets from an instruction of this row: its
-- spelling if the fields fit the row, else none
unfoldable pub assembled_row_code : RowData → Fields → List ℕ
assembled_row_code row f = if decoded_fields_fit row f then spelling row f else []

-- the fields with which a draft spells its next instruction, of the row with this number: its
-- target is resolved here, unless a relocation will fill it in
abbrev pub row_fields_with_target : List SymbolData → DraftData → ℕ → Fields → Option ReferenceData → RowFieldsData
row_fields_with_target labels d k f r = option_map_or (λ row. fields_with_target labels d row f r) (slice_get table_rows k) (bare_row_fields f)

-- the bytes that a draft gets from an instruction: the spelling in the row with this number, and
-- none if there is no such row
abbrev pub assembled_code : ℕ → Fields → List ℕ
assembled_code k f = option_map_or (λ row. assembled_row_code row f) (slice_get table_rows k) []

-- the bytes of an instruction at the current place of a draft: its spelling with its target
-- resolved
unfoldable pub code_bytes : List SymbolData → DraftData → ℕ → Fields → Option ReferenceData → List ℕ
code_bytes labels d k f r = assembled_code k (row_fields_with_target labels d k f r).fields

-- ---- a further item, given the symbols of the whole source
-- the draft of an object one step further: with the label, section, global name or bytes of this
-- item, given the symbols of the whole source
unfoldable pub draft_after_item : List SymbolData → DraftData → ItemData → DraftData
draft_after_item labels d (label name) = with_label d name
draft_after_item labels d (section name) = with_current_section d name
draft_after_item labels d (global name) = with_global d name
draft_after_item labels d (code k f r) = with_content d (code_bytes labels d k f r) r
draft_after_item labels d (bytes bs r) = with_content d bs r
draft_after_item labels d (zeros n) = with_bytes_if_room d (replicate n 0)

-- ---- names and counts
-- the names of sections
abbrev pub draft_section_names : List DraftSectionData → List (List ℕ)
draft_section_names parts = map (λ (p : DraftSectionData). p.name) parts

-- the number of uses of symbols in the sections
abbrev pub count_of_uses : List DraftSectionData → ℕ
count_of_uses parts = sum_by (λ (p : DraftSectionData). length p.uses) parts

-- the size in bytes of a draft's section of this number; 0 if there is no such section
abbrev pub draft_section_size_at : List DraftSectionData → ℕ → ℕ
draft_section_size_at [] n = 0
draft_section_size_at (p ∷ ps) zero = length p.bytes
draft_section_size_at (p ∷ ps) (suc n) = draft_section_size_at ps n

-- the bytes of a draft's section of this number; none if there is no such section
abbrev pub draft_section_bytes_at : List DraftSectionData → ℕ → List ℕ
draft_section_bytes_at [] s = []
draft_section_bytes_at (p ∷ ps) zero = p.bytes
draft_section_bytes_at (p ∷ ps) (suc s) = draft_section_bytes_at ps s

-- the size in bytes that an instruction of the row with this number has in a draft, and 0 if there
-- is no such row
unfoldable pub assembled_code_size : ℕ → ℕ
assembled_code_size k = option_map_or (λ row. if is_32_bit_row row then 4 else 2) (slice_get table_rows k) 0
