-- Global symbols by their names: how many have one, and the map that knows it.
use Rattle.std.specs.Prelude.{◌≡◌, ◌==◌, nat_lt, if◌then◌else◌, ℕ, Bool, List, map, Option, Some, None, ◌&&◌, count_by, filter, find}
use Rattle.std.specs.Borrow.{Bor}
use Rattle.std.specs.HashMap.{HashMap, get_by}
use Rattle.std.specs.Option.{option_map}
use Rattle.std.specs.Str.{bytes_eq}
use Rattle.tc_object.specs.Objects.{ObjectData, SymbolData, global_symbol}
use Rattle.tc_link.specs.declared.definitions.Definition.{Definition}
use Rattle.tc_link.specs.Placing.{PlacedData, address_in_section, definition_address}
use Rattle.std.specs.List.{flat_map}

-- what the map of global symbols holds for a name; None if no global symbol has the name
abbrev pub global_at_name : {X S : Type 0} → HashMap (Bor (List ℕ)) X S → List ℕ → Option X
global_at_name names q = get_by (λ k. bytes_eq q k.now) names

-- ---- the number of symbols with a name
-- whether several global symbols have the name, as the map says; None if none has
abbrev pub twice_at : {S : Type 0} → HashMap (Bor (List ℕ)) Definition S → List ℕ → Option Bool
twice_at names q = option_map (λ d. d.is_twice) (global_at_name names q)

-- whether n global symbols of one name are several; None if n is 0
abbrev pub twice_of_count : ℕ → Option Bool
twice_of_count n = if n == 0 then None else Some (nat_lt 1 n)

-- the map's count of the definitions of this name by linked objects, which is none, one or several,
-- is that of n
abbrev pub HasCountedDefinitions : {S : Type 0} → HashMap (Bor (List ℕ)) Definition S → List ℕ → ℕ → Type 0
HasCountedDefinitions names q n = twice_at names q ≡ twice_of_count n

-- the symbol is defined, and other objects may use it
abbrev pub is_global : SymbolData → Bool
is_global s = s.kind == global_symbol

-- a global symbol of linked objects: its name and its address
pub record GlobalData : Type 0 where
  pub name : List ℕ
  pub address : ℕ

-- the name of a global symbol with its address, if the sections of its object begin at these
-- addresses
abbrev pub global_data : List ℕ → SymbolData → GlobalData
global_data bases s = record { name = s.name; address = address_in_section bases s.section s.offset }

-- the global symbols among an object's symbols, each with its address, if the object's sections
-- begin at these addresses
abbrev pub globals_of_symbols : List ℕ → List SymbolData → List GlobalData
globals_of_symbols bases symbols = map (global_data bases) (filter is_global symbols)

-- the global symbols of placed objects: the name and the address of each
unfoldable pub globals_of : List PlacedData → List GlobalData
globals_of placed = flat_map (λ p. globals_of_symbols p.bases p.object.symbols) placed

-- the address of the first of these global symbols with this name; None if none has the name
abbrev pub first_global_address : List GlobalData → List ℕ → Option ℕ
first_global_address globals name = option_map (λ g. g.address) (find (λ g. bytes_eq name g.name) globals)

-- the symbol is global and has the name
abbrev pub has_global_name : List ℕ → SymbolData → Bool
has_global_name name s = is_global s && bytes_eq name s.name

-- the symbols of all objects, in order
abbrev pub symbols_to_link : List ObjectData → List SymbolData
symbols_to_link objects = flat_map (λ o. o.symbols) objects

-- the number of global symbols of these objects with this name; those of one object have distinct
-- names
unfoldable pub count_globals_named : List ObjectData → List ℕ → ℕ
count_globals_named objects name = count_by (has_global_name name) (symbols_to_link objects)

-- for each name, the map has counted the global symbols of these objects with that name: none, one
-- or several
abbrev pub HasCountedAllDefinitions : {S : Type 0} → HashMap (Bor (List ℕ)) Definition S → List ObjectData → Type 0
HasCountedAllDefinitions names objects = (q : List ℕ) → HasCountedDefinitions names q (count_globals_named objects q)

-- ---- addresses

-- the address of the global symbol with this name, by the map and placed objects; None without one
abbrev pub global_symbol_address : {S : Type 0} → HashMap (Bor (List ℕ)) Definition S → List PlacedData → List ℕ → Option ℕ
global_symbol_address names placed q = option_map (definition_address placed) (global_at_name names q)

-- for each name, the map and the placed objects give the address of the first of these global
-- symbols with that name, or none
abbrev pub ResolvesGlobals : {S : Type 0} → HashMap (Bor (List ℕ)) Definition S → List PlacedData → List GlobalData → Type 0
ResolvesGlobals names placed all = (q : List ℕ) → global_symbol_address names placed q ≡ first_global_address all q

-- wherever the objects are placed, the map resolves the names of all their global symbols to
-- addresses
abbrev pub ResolvesAllGlobals : {S : Type 0} → HashMap (Bor (List ℕ)) Definition S → List ObjectData → Type 0
ResolvesAllGlobals names objects = (placed : List PlacedData) → map (λ p. p.object) placed ≡ objects → ResolvesGlobals names placed (globals_of placed)
