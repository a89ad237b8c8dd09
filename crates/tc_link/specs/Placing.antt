-- The addresses of the sections and symbols of objects.
use Rattle.std.specs.Prelude.{◌<◌, ◌+◌, ◌%◌, ◌^◌, ℕ, List, ◌∷◌, ◌++◌, length, slice_index, slice_index_or, slice_get, []}
use Rattle.std.specs.Option.{option_map_or}
use Rattle.std.specs.List.{flat_map}
use Rattle.tc_object.specs.Objects.{SectionData, ObjectData, IsObject}
use Rattle.tc_link.specs.Layouts.{PlaceData, LayoutData, place_of}
use Rattle.tc_link.specs.PlaceSizes.{next_multiple_of_4, used_place_size}
use Rattle.tc_link.specs.declared.definitions.Definition.{Definition}

-- ---- sections
-- the sections of all objects, in the order in which the linker places them
abbrev pub sections_to_link : List ObjectData → List SectionData
sections_to_link objects = flat_map (λ o. o.sections) objects

-- the address at which the linker places a section after these; 0 if no place has its name
abbrev pub section_base : List PlaceData → List SectionData → SectionData → ℕ
section_base places before s = option_map_or (λ p. p.at + next_multiple_of_4 (used_place_size s.name before)) (place_of places s.name) 0

-- the addresses of sections after these sections, each after the one before it
unfoldable pub section_bases_after : List PlaceData → List SectionData → List SectionData → List ℕ
section_bases_after places before [] = []
section_bases_after places before (s ∷ ss) = section_base places before s ∷ section_bases_after places (before ++ s ∷ []) ss

-- each of these objects that the linker places is a valid object
abbrev pub AreValidObjects : List ObjectData → Type 0
AreValidObjects objects = (k : ℕ) (d : ObjectData) → k < length objects → IsObject (slice_index_or objects k d)

-- an object, and the address of each of its sections
pub record PlacedData : Type 0 where
  pub object : ObjectData
  pub bases : List ℕ

-- objects with their addresses, after these sections, in order
unfoldable pub placed_after : List PlaceData → List SectionData → List ObjectData → List PlacedData
placed_after places before [] = []
placed_after places before (o ∷ os) = record { object = o; bases = section_bases_after places before o.sections } ∷ placed_after places (before ++ o.sections) os

-- ---- symbols

-- the address of an offset in the section with this number, if the linker places the sections of
-- its object at these addresses
abbrev pub address_in_section : List ℕ → ℕ → ℕ → ℕ
address_in_section bases section offset = (slice_index bases section + offset) % 2 ^ 32

-- the address of a global symbol's definition, from that of its section; 0 if its object isn't
-- placed
abbrev pub definition_address : List PlacedData → Definition → ℕ
definition_address placed d = option_map_or (λ p. address_in_section p.bases d.section d.offset) (slice_get placed d.object) 0

-- the objects with the addresses of their sections in the layout
abbrev pub placed_in_layout : LayoutData → List ObjectData → List PlacedData
placed_in_layout layout objects = placed_after layout.places [] objects
