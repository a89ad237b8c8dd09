-- Objects and their places, number by number.
use Rattle.std.proofs.Common.{◌≡◌, ◌<◌, ◌≤◌, ◌∷◌, ◌++◌, [], ℕ, Bool, true, false, cond, List, length, take, get_or, map, Option, Some, refl, sym, ap, ◌∙◌, arith}
use Rattle.std.specs.Prelude.{slice_get, filter}
use Rattle.std.specs.Option.{option_map_or}
use Rattle.std.proofs.lemmas.List.{length-map, get_or-map, take_all}
use Rattle.std.proofs.lemmas.Option.{slice_get-get_or}
use Rattle.tc_object.specs.Objects.{SectionData, SymbolData, ObjectData}
use Rattle.tc_link.specs.Layouts.{PlaceData}
use Rattle.tc_link.specs.Placing.{PlacedData, address_in_section, placed_after, definition_address}
use Rattle.tc_link.specs.GlobalSymbols.{GlobalData, is_global, global_data, first_global_address}
use Rattle.tc_link.proofs.ItemLaws.{same_item}

-- the object of a number, with its place
pub record PlacedAt (all : List PlacedData) (i : ℕ) (o : ObjectData) : Type 0 where
  pub placed : PlacedData
  pub within : i < length all
  pub is : placed ≡ get_or all i placed
  pub found : slice_get all i ≡ Some placed
  pub object : placed.object ≡ o

pub as_many : (placed : List PlacedData) (objects : List ObjectData) → map (λ (p : PlacedData). p.object) placed ≡ objects → length objects ≡ length placed
as_many placed objects same = ap (λ (l : List ObjectData). length l) (sym same) ∙ length-map placed (λ (p : PlacedData). p.object)

pub placed_at : (placed : List PlacedData) (objects : List ObjectData) (i : ℕ) (o : ObjectData) → map (λ (p : PlacedData). p.object) placed ≡ objects
    → i < length objects → o ≡ get_or objects i o → PlacedAt placed i o
placed_at placed objects i o same h is =
    let none : PlacedData = record { object = o; bases = [] } in
    let p : PlacedData = get_or placed i none in
    let within : i < length placed = omega (arith, h, as_many placed objects same) in
    let at : p ≡ get_or placed i p = same_item placed i none p within in
    record {
      placed = p;
      within = within;
      is = at;
      found = slice_get-get_or placed i p within ∙ ap (λ (x : PlacedData). Some x) (sym at);
      object =
          sym (get_or-map (λ (x : PlacedData). x.object) placed i none o within)
          ∙ ap (λ (l : List ObjectData). get_or l i o) same
          ∙ sym is;
    }

pub whole_placed : (placed : List PlacedData) (objects : List ObjectData) (i : ℕ) → map (λ (p : PlacedData). p.object) placed ≡ objects → length objects ≤ i → take i placed ≡ placed
whole_placed placed objects i same h = take_all i placed (omega (arith, h, as_many placed objects same))

-- a global symbol of an object with these addresses
pub symbol_globals : (placed : List PlacedData) (p : PlacedData) (object : ℕ) (v : SymbolData) (before : List GlobalData) (q : List ℕ) → slice_get placed object ≡ Some p → is_global v ≡ true
    → first_global_address (before ++ record { name = v.name; address = definition_address placed (record { object = object; section = v.section; offset = v.offset; is_twice = false }) } ∷ []) q
    ≡ first_global_address (before ++ map (global_data p.bases) (filter is_global (v ∷ []))) q
symbol_globals placed p object v before q at is =
    ap (λ (o : Option PlacedData). first_global_address (before ++ record { name = v.name; address = option_map_or (λ (x : PlacedData). address_in_section x.bases v.section v.offset) o 0 } ∷ []) q) at
    ∙ ap (λ (b : Bool). first_global_address (before ++ map (global_data p.bases) (cond b (v ∷ []) [])) q) (sym is)

-- the objects that were placed
pub placed_objects : (places : List PlaceData) (before : List SectionData) (objects : List ObjectData) → map (λ (p : PlacedData). p.object) (placed_after places before objects) ≡ objects
unfolding placed_after
placed_objects places before [] = refl
placed_objects places before (o ∷ os) = ap (λ (l : List ObjectData). o ∷ l) (placed_objects places (before ++ o.sections) os)
