-- The addresses of the sections, labels and names of sources after linking.
-- No object is mentioned.
use Rattle.std.specs.Prelude.{◌≡◌, ◌+◌, ◌%◌, ◌^◌, ℕ, true, List, ◌++◌, take, slice_get, Some, None}
use Rattle.std.specs.List.{flat_map}
use Rattle.tc_object.specs.Objects.{SectionData}
use Rattle.tc_asm.specs.declared.symbols.Place.{Place}
use Rattle.tc_asm.specs.Symbols.{entry_or_undefined, place_in}
use Rattle.tc_asm.specs.Statements.{sections_in}
use Rattle.tc_asm.specs.DraftedSources.{symbols_in}
use Rattle.tc_link.specs.Layouts.{PlaceData, place_of}
use Rattle.tc_link.specs.PlaceSizes.{next_multiple_of_4, used_place_size}

-- the sections of all sources, in the order in which the linker places them
abbrev pub program_sections : List (List ℕ) → List SectionData
program_sections sources = flat_map sections_in sources

-- The address of a section of a source: in the place for its name, after the sections of this name
-- in earlier sources, at a multiple of 4.
pub record SectionHasAddress (places : List PlaceData) (sources : List (List ℕ)) (number section base : ℕ) : Type 0 where
  pub source : List ℕ
  pub is_source : slice_get sources number ≡ Some source
  pub data_of : SectionData
  pub is_section : slice_get (sections_in source) section ≡ Some data_of
  pub place : PlaceData
  pub is_place : place_of places data_of.name ≡ Some place
  pub is : base ≡ place.at + next_multiple_of_4 (used_place_size data_of.name (program_sections (take number sources) ++ take section (sections_in source)))

-- a label of a source has this address after linking: that of its section plus its offset there
pub record LabelHasAddress (places : List PlaceData) (sources : List (List ℕ)) (number : ℕ) (name : List ℕ) (address : ℕ) : Type 0 where
  pub source : List ℕ
  pub is_source : slice_get sources number ≡ Some source
  pub label : Place
  pub is_label : place_in (symbols_in source) name ≡ Some label
  pub base : ℕ
  pub begins : SectionHasAddress places sources number label.section base
  pub is : address ≡ (base + label.offset) % 2 ^ 32

-- a global label of this name, which some source defines, has this address after linking
pub record GlobalHasAddress (places : List PlaceData) (sources : List (List ℕ)) (name : List ℕ) (address : ℕ) : Type 0 where
  pub number : ℕ
  pub stands : LabelHasAddress places sources number name address
  pub is_global : (entry_or_undefined (symbols_in stands.source) name).is_global ≡ true

-- the address of a name in a source after linking: that of the source's own label, or else that of
-- a global label of some source
pub data NameHasAddress (places : List PlaceData) (sources : List (List ℕ)) (number : ℕ) (name : List ℕ) : ℕ → Type 0 where
  own : (address : ℕ) → LabelHasAddress places sources number name address → NameHasAddress places sources number name address
  other :
      (source : List ℕ) (address : ℕ) → slice_get sources number ≡ Some source → place_in (symbols_in source) name ≡ None
      → GlobalHasAddress places sources name address → NameHasAddress places sources number name address
