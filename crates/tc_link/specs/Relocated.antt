-- The bytes of sections with their relocations written, and the addresses of symbols.
use Rattle.std.specs.Prelude.{◌≡◌, ◌+◌, ◌%◌, ◌^◌, ℕ, List, ◌++◌, fold, take, drop, slice_get, slice_set, ◌==◌, if◌then◌else◌, map}
use Rattle.std.specs.Option.{option_map_or}
use Rattle.tc_object.specs.declared.relocs.Reloc.{Reloc}
use Rattle.tc_object.specs.Objects.{SectionData, undefined_symbol, SymbolData}
use Rattle.tc_reloc.specs.Fields.{reloc_field_number, with_reloc_field}
use Rattle.tc_link.specs.Placing.{PlacedData, address_in_section}
use Rattle.tc_link.specs.GlobalSymbols.{GlobalData, first_global_address, globals_of}
use Rattle.std.specs.List.{flat_map}

-- the address of a relocation's field
abbrev pub reloc_field_address : PlacedData → Reloc → ℕ
reloc_field_address p r = address_in_section p.bases r.section r.offset

-- the address of a symbol that relocations write: a defined symbol has its own, an undefined one
-- that of the global symbol with its name, or 0 if there is none
abbrev pub symbol_address : List GlobalData → List ℕ → SymbolData → ℕ
symbol_address globals bases s = if s.kind == undefined_symbol then option_map_or (λ a. a) (first_global_address globals s.name) 0 else address_in_section bases s.section s.offset

-- the addresses of the symbols of a placed object, by their numbers, as its relocations write them
unfoldable pub symbol_addresses : List GlobalData → PlacedData → List ℕ
symbol_addresses globals p = map (symbol_address globals p.bases) p.object.symbols

-- the value of a relocation: the address of its symbol plus the addend
abbrev pub reloc_value : List GlobalData → PlacedData → Reloc → ℕ
reloc_value globals p r = (option_map_or (symbol_address globals p.bases) (slice_get p.object.symbols r.symbol) 0 + r.addend) % 2 ^ 32

-- a section's bytes with these four, a relocation's field, at an offset
abbrev pub section_bytes_with_field : List ℕ → ℕ → List ℕ → List ℕ
section_bytes_with_field bytes at field = take at bytes ++ (field ++ drop (at + 4) bytes)

-- the four bytes of a relocation's field, at an offset of a section's bytes
abbrev pub reloc_field_at : List ℕ → ℕ → List ℕ
reloc_field_at bytes at = take 4 (drop at bytes)

-- a section after a relocation at address `place` wrote this value into its field
abbrev pub section_with_filled_field : Reloc → ℕ → ℕ → SectionData → SectionData
section_with_filled_field r place value s = record {
  name = s.name;
  bytes = section_bytes_with_field s.bytes r.offset (with_reloc_field r.kind (reloc_field_at s.bytes r.offset) (reloc_field_number r.kind place value));
}

-- a section of a placed object after one of its relocations is applied
abbrev pub section_after_reloc : List GlobalData → PlacedData → Reloc → SectionData → SectionData
section_after_reloc globals p r s = section_with_filled_field r (reloc_field_address p r) (reloc_value globals p r) s

-- the list after f is applied to the item of this number; unchanged if there is no such item
abbrev pub with_changed_item : {A : Type 0} → (A → A) → ℕ → List A → List A
with_changed_item f n xs = option_map_or (λ x. slice_set xs n (f x)) (slice_get xs n) xs

-- the sections of a placed object after one of its relocations is applied
abbrev pub sections_after_reloc : List GlobalData → PlacedData → List SectionData → Reloc → List SectionData
sections_after_reloc globals p sections r = with_changed_item (section_after_reloc globals p r) r.section sections

-- the sections of a placed object after all its relocations are applied, in order
unfoldable pub relocated_sections : List GlobalData → PlacedData → List SectionData
relocated_sections globals p = fold (sections_after_reloc globals p) p.object.sections p.object.relocs

-- if these are the addresses of a placed object's symbols, these are its sections after all its
-- relocations are applied
abbrev pub AreRelocatedSections : List ℕ → PlacedData → List SectionData → Type 0
AreRelocatedSections addresses p sections = (all : List GlobalData) → addresses ≡ symbol_addresses all p → sections ≡ relocated_sections all p

-- the sections of all placed objects, with their relocations applied
unfoldable pub all_relocated_sections : List PlacedData → List SectionData
all_relocated_sections placed = flat_map (relocated_sections (globals_of placed)) placed
