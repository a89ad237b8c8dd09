-- Why objects can't be linked, and the first refusal of each kind.
use Rattle.std.specs.Prelude.{◌≡◌, ◌+◌, ◌==◌, ◌&&◌, ◌||◌, not, nat_lt, ℕ, Bool, List, ◌∷◌, ◌++◌, length, Option, None, []}
use Rattle.std.specs.Bool.{then_some}
use Rattle.std.specs.Option.{option_map, option_or}
use Rattle.std.specs.List.{list_any}
use Rattle.tc_object.specs.Objects.{undefined_symbol, SectionData, SymbolData, ObjectData}
use Rattle.tc_object.specs.declared.relocs.Reloc.{Reloc}
use Rattle.tc_reloc.specs.declared.refusals.RelocErr.{RelocErr}
use Rattle.tc_link.specs.Layouts.{PlaceData, has_place_for, LayoutData}
use Rattle.tc_link.specs.Placing.{PlacedData, sections_to_link}
use Rattle.tc_link.specs.GlobalSymbols.{GlobalData, is_global, count_globals_named}
use Rattle.tc_link.specs.PlaceSizes.{has_region_overflow}
use Rattle.tc_reloc.specs.Refusals.{reloc_value_refusal}
use Rattle.tc_link.specs.Relocated.{reloc_field_address, symbol_addresses, reloc_value}

-- why objects can't be linked
pub data Refusal : Type 0 where
  twice : List ℕ → Refusal
  missing : List ℕ → Refusal
  no_place : List ℕ → Refusal
  no_room : List ℕ → Refusal
  reloc : ℕ → ℕ → ℕ → RelocErr → Refusal
  no_entry : Refusal

-- the linker's first refusal, over the items of a list (objects, symbols, sections or relocations)
-- with their numbers, counted from n on
unfoldable pub first_refusal_from : {A B : Type 0} → (ℕ → A → Option B) → ℕ → List A → Option B
first_refusal_from f n [] = None
first_refusal_from f n (x ∷ xs) = option_or (f n x) (first_refusal_from f (n + 1) xs)

-- the linker's first refusal, over the items of a list (objects, symbols, sections or relocations)
-- with their numbers, counted from 0 on
abbrev pub first_refusal_over : {A B : Type 0} → (ℕ → A → Option B) → List A → Option B
first_refusal_over f xs = first_refusal_from f 0 xs

-- a refusal if the symbol is global and several objects define its name, else None
abbrev pub duplicate_symbol_refusal : List ObjectData → ℕ → SymbolData → Option Refusal
duplicate_symbol_refusal objects number s = then_some (is_global s && nat_lt 1 (count_globals_named objects s.name)) (twice s.name)

-- the refusal of the first global symbol that two objects define, or None
unfoldable pub first_duplicate_symbol_refusal : List ObjectData → Option Refusal
first_duplicate_symbol_refusal objects = first_refusal_over (λ _ o. first_refusal_over (duplicate_symbol_refusal objects) o.symbols) objects

-- one of the relocations uses the symbol with this number
abbrev pub is_used_by_relocs : List Reloc → ℕ → Bool
is_used_by_relocs relocs number = list_any (λ r. r.symbol == number) relocs

-- a refusal if a relocation uses the symbol, which is undefined in its object and global in none,
-- else None
abbrev pub missing_symbol_refusal : List ObjectData → List Reloc → ℕ → SymbolData → Option Refusal
missing_symbol_refusal objects relocs number s = then_some (s.kind == undefined_symbol && is_used_by_relocs relocs number && count_globals_named objects s.name == 0) (missing s.name)

-- the refusal of the first symbol that is used, undefined in its object and global in none, or None
unfoldable pub first_missing_symbol_refusal : List ObjectData → Option Refusal
first_missing_symbol_refusal objects = first_refusal_over (λ _ o. first_refusal_over (missing_symbol_refusal objects o.relocs) o.symbols) objects

-- one of the symbols is defined in the section with this number, which then needs a place
abbrev pub has_symbol_in_section : List SymbolData → ℕ → Bool
has_symbol_in_section symbols number = list_any (λ s. not (s.kind == undefined_symbol) && s.section == number) symbols

-- a refusal if the section has no place, but has bytes or a symbol defined in it, else None
abbrev pub no_place_refusal : List PlaceData → List SymbolData → ℕ → SectionData → Option Refusal
no_place_refusal places symbols number s = then_some ((nat_lt 0 (length s.bytes) || has_symbol_in_section symbols number) && not (has_place_for places s.name)) (no_place s.name)

-- the refusal of the first section that needs a place and has none, or None
unfoldable pub first_no_place_refusal : List PlaceData → List ObjectData → Option Refusal
first_no_place_refusal places objects = first_refusal_over (λ _ o. first_refusal_over (no_place_refusal places o.symbols) o.sections) objects

-- a refusal if there is no room for the section after these sections, else None
abbrev pub no_room_refusal : List PlaceData → List SectionData → SectionData → Option Refusal
no_room_refusal places before s = then_some (has_region_overflow places (before ++ s ∷ [])) (no_room s.name)

-- the refusal of the first section without room, after these sections and earlier ones; or None
unfoldable pub first_no_room_refusal : List PlaceData → List SectionData → List SectionData → Option Refusal
first_no_room_refusal places before [] = None
first_no_room_refusal places before (s ∷ ss) = option_or (no_room_refusal places before s) (first_no_room_refusal places (before ++ s ∷ []) ss)

-- the error of a relocation whose field can't hold its value, or None
abbrev pub reloc_error : List GlobalData → PlacedData → Reloc → Option RelocErr
reloc_error globals p r = reloc_value_refusal r.kind (reloc_field_address p r) (reloc_value globals p r)

-- the refusal of a relocation of the object with this number that can't be applied, or None
abbrev pub reloc_refusal : List GlobalData → ℕ → PlacedData → ℕ → Reloc → Option Refusal
reloc_refusal globals object p number r = option_map (λ err. reloc object r.section r.offset err) (reloc_error globals p r)

-- the refusal of the first relocation of the object with this number that can't be applied, or None
abbrev pub first_reloc_refusal_in : List GlobalData → ℕ → PlacedData → Option Refusal
first_reloc_refusal_in globals object p = first_refusal_over (reloc_refusal globals object p) p.object.relocs

-- if these are the addresses of its symbols, no relocation of the object with this number is
-- refused
abbrev pub AreRelocsApplicable : List ℕ → ℕ → PlacedData → Type 0
AreRelocsApplicable addresses number p = (all : List GlobalData) → addresses ≡ symbol_addresses all p → first_reloc_refusal_in all number p ≡ None

-- the refusal of the first relocation that can't be applied, in the order of the objects, or None
unfoldable pub first_reloc_refusal : List GlobalData → List PlacedData → Option Refusal
first_reloc_refusal globals placed = first_refusal_over (λ object p. first_reloc_refusal_in globals object p) placed

-- the linker's first refusal before relocations are applied, in this order, or None
abbrev pub refusal_before_relocs : LayoutData → List ObjectData → Option Refusal
refusal_before_relocs layout objects =
    option_or (first_duplicate_symbol_refusal objects)
    (option_or (first_missing_symbol_refusal objects)
    (option_or (first_no_place_refusal layout.places objects) (first_no_room_refusal layout.places [] (sections_to_link objects))))
