-- The table of symbols, in the order of first use.
use Rattle.std.specs.Prelude.{ℕ, true, false, if◌then◌else◌, List, ◌∷◌, Option, Some, None, find, option_map, is_some, unwrap_or, position, map, []}
use Rattle.std.specs.Str.{bytes_eq}
use Rattle.tc_asm.specs.declared.symbols.Place.{Place}
use Rattle.tc_asm.specs.declared.symbols.Entry.{Entry}

-- a symbol: its name, the place of its label, and whether it is global
pub record SymbolData : Type 0 where
  pub name : List ℕ
  pub entry : Entry

-- a symbol with this name and entry
abbrev pub symbol : List ℕ → Entry → SymbolData
symbol name e = record { name = name; entry = e }

-- the entry of a name that is used, but not defined so far
abbrev pub undefined_entry : Entry
undefined_entry = record { place = None; is_global = false }

-- the entry of a name in the assembler's table of symbols, if it is there
abbrev pub entry_in : List SymbolData → List ℕ → Option Entry
entry_in ss name = option_map (λ (s : SymbolData). s.entry) (find (λ s. bytes_eq name s.name) ss)

-- the entry of a name in the assembler's table of symbols, or that of an undefined name if it isn't
-- there
abbrev pub entry_or_undefined : List SymbolData → List ℕ → Entry
entry_or_undefined ss name = unwrap_or (entry_in ss name) undefined_entry

-- the assembler's table of symbols with this entry of a name: a known symbol keeps its number, and
-- a new one is the last
abbrev pub with_symbol_entry : List SymbolData → List ℕ → Entry → List SymbolData
with_symbol_entry [] name e = symbol name e ∷ []
with_symbol_entry (s ∷ ss) name e = if bytes_eq name s.name then symbol s.name e ∷ ss else s ∷ with_symbol_entry ss name e

-- the place of a name's label, if it has one
abbrev pub place_in : List SymbolData → List ℕ → Option Place
place_in ss name = (entry_or_undefined ss name).place

-- the assembler's table of symbols after a use of a name: a new name is added, without a label
unfoldable pub with_name : List SymbolData → List ℕ → List SymbolData
with_name ss name = with_symbol_entry ss name (entry_or_undefined ss name)

-- the entry of a new name whose label is at this place
abbrev pub entry_of_new_label : Place → Entry
entry_of_new_label place = record { place = Some place; is_global = false }

-- the entry of a known name after a label at this place; an earlier label keeps its place
abbrev pub entry_with_label : Entry → Place → Entry
entry_with_label e place = if is_some e.place then e else record e { place = Some place }

-- the assembler's table of symbols after a label of this name at this place
unfoldable pub with_symbol_label : List SymbolData → List ℕ → Place → List SymbolData
with_symbol_label ss name place = with_symbol_entry ss name (entry_with_label (entry_or_undefined ss name) place)

-- the assembler's table of symbols after `.global` with this name, which is added if it is new
unfoldable pub with_global_symbol : List SymbolData → List ℕ → List SymbolData
with_global_symbol ss name = with_symbol_entry ss name (record (entry_or_undefined ss name) { is_global = true })

-- the number of a name in the assembler's table of symbols, and 0 if it isn't there
abbrev pub symbol_number : List SymbolData → List ℕ → ℕ
symbol_number ss name = unwrap_or (position (λ s. bytes_eq name s.name) ss) 0

-- the names in the assembler's table of symbols, in the order of first use
abbrev pub symbol_names : List SymbolData → List (List ℕ)
symbol_names ss = map (λ (s : SymbolData). s.name) ss
