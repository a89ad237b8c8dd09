-- Objects as plain data, and the invariant of objects.
use Rattle.std.specs.Prelude.{◌≡◌, ◌≤◌, ◌<◌, ◌+◌, ◌-◌, ◌^◌, ◌==◌, ◌&&◌, ◌||◌, nat_lt, nat_le, if◌then◌else◌, ℕ, Bool, true, List, ◌∷◌, ◌++◌, length, slice_get, Option, Some, None, []}
use Rattle.tc_object.specs.declared.relocs.Reloc.{Reloc}
use Rattle.std.specs.List.{list_any}
use Rattle.std.specs.Str.{bytes_eq}
use Rattle.tc_object.specs.Names.{IsNewObjectName}

-- the kind of symbols that are used here and defined in another object
abbrev pub undefined_symbol : ℕ
undefined_symbol = 0

-- the kind of symbols that only their own object sees
abbrev pub local_symbol : ℕ
local_symbol = 1

-- the kind of symbols that all objects see
abbrev pub global_symbol : ℕ
global_symbol = 2

-- a section: its name and its bytes
pub record SectionData : Type 0 where
  pub name : List ℕ
  pub bytes : List ℕ

-- a symbol: its name, its kind, the number of its section, and its offset there
pub record SymbolData : Type 0 where
  pub name : List ℕ
  pub kind : ℕ
  pub section : ℕ
  pub offset : ℕ

-- an object: its sections, symbols and relocations, in the order of the file
pub record ObjectData : Type 0 where
  pub sections : List SectionData
  pub symbols : List SymbolData
  pub relocs : List Reloc

-- some section of an object has the name
abbrev pub is_section_name : List SectionData → List ℕ → Bool
is_section_name ss name = list_any (λ s. bytes_eq name s.name) ss

-- one of an object's symbols has the name
abbrev pub is_symbol_name : List SymbolData → List ℕ → Bool
is_symbol_name ss name = list_any (λ s. bytes_eq name s.name) ss

-- each item has the property, which may depend on the items before that one
abbrev pub AllInTurn : {A : Type 0} → (List A → A → Type 0) → List A → List A → Type 0
AllInTurn good before [] = Unit {0}
AllInTurn good before (x ∷ xs) = good before x × AllInTurn good (before ++ x ∷ []) xs

-- ---- sections
-- a section whose name no earlier section has, and whose length fits 32 bits
pub record IsSection (before : List SectionData) (s : SectionData) : Type 0 where
  pub name : IsNewObjectName (is_section_name before) s.name
  pub small : length s.bytes < 2 ^ 32

-- the number of bytes of an object's section, and 0 if there is none
abbrev pub section_size : Option SectionData → ℕ
section_size None = 0
section_size (Some s) = length s.bytes

-- the number of bytes of an object's section with this number, and 0 if there is none
abbrev pub section_size_at : List SectionData → ℕ → ℕ
section_size_at ss n = section_size (slice_get ss n)

-- ---- symbols
-- in a valid object: the section of an undefined symbol is 0, that of a defined symbol is one of
-- the object's
abbrev pub is_valid_symbol_section : List SectionData → ℕ → ℕ → Bool
is_valid_symbol_section ss kind section = if kind == undefined_symbol then section == 0 else nat_lt section (length ss)

-- in a valid object: the offset of an undefined symbol is 0, that of a defined symbol is at most
-- its section's length
abbrev pub is_valid_symbol_offset : List SectionData → ℕ → ℕ → ℕ → Bool
is_valid_symbol_offset ss kind section offset = if kind == undefined_symbol then offset == 0 else nat_le offset (section_size_at ss section)

-- a symbol of a known kind, with a name that no earlier symbol has; a defined one has a section and
-- an offset in it
pub record IsSymbol (sections : List SectionData) (before : List SymbolData) (s : SymbolData) : Type 0 where
  pub name : IsNewObjectName (is_symbol_name before) s.name
  pub kind : s.kind ≤ global_symbol
  pub section : is_valid_symbol_section sections s.kind s.section ≡ true
  pub offset : is_valid_symbol_offset sections s.kind s.section s.offset ≡ true
  pub half : s.section < 2 ^ 16
  pub word : s.offset < 2 ^ 32

-- ---- relocations
-- the last of an object's relocations, if there is one; the next one must come after it
abbrev pub last_reloc : List Reloc → Option Reloc
last_reloc rs = slice_get rs (length rs - 1)

-- in a valid object: a relocation's place comes after that of the last one, in a later section or
-- at a greater offset
abbrev pub is_after_last_reloc : Option Reloc → ℕ → ℕ → Bool
is_after_last_reloc None section offset = true
is_after_last_reloc (Some r) section offset = nat_lt r.section section || (r.section == section && nat_lt r.offset offset)

-- a relocation of a known kind, after the earlier ones: four bytes of a section, and a symbol's
-- number
pub record IsReloc (sections : List SectionData) (symbols : ℕ) (before : List Reloc) (r : Reloc) : Type 0 where
  pub section : r.section < length sections
  pub behind : is_after_last_reloc (last_reloc before) r.section r.offset ≡ true
  pub room : r.offset + 4 ≤ section_size_at sections r.section
  pub some : 1 ≤ r.kind
  pub kind : r.kind ≤ 7
  pub symbol : r.symbol < symbols
  pub half : r.section < 2 ^ 16
  pub word : r.offset < 2 ^ 32
  pub addend : r.addend < 2 ^ 32

-- ---- objects
-- at most 64 sections, 65,535 symbols and 65,535 relocations, each valid given the earlier ones
pub record IsObject (o : ObjectData) : Type 0 where
  pub few_sections : length o.sections ≤ 64
  pub few_symbols : length o.symbols < 2 ^ 16
  pub few_relocs : length o.relocs < 2 ^ 16
  pub sections : AllInTurn IsSection [] o.sections
  pub symbols : AllInTurn (IsSymbol o.sections) [] o.symbols
  pub relocs : AllInTurn (IsReloc o.sections (length o.symbols)) [] o.relocs
