-- What holds of drafts whose lines break no rule.
use Rattle.std.specs.Prelude.{◌≡◌, ◌≤◌, ◌<◌, ◌+◌, ◌^◌, ℕ, Bool, true, List, ◌∷◌, length, Option, Some, None, IfSome, []}
use Rattle.std.specs.List.{list_any}
use Rattle.std.specs.Str.{bytes_eq}
use Rattle.tc_object.specs.Names.{IsNewObjectName}
use Rattle.tc_object.specs.Objects.{AllInTurn}
use Rattle.tc_asm.specs.declared.symbols.Place.{Place}
use Rattle.tc_asm.specs.Symbols.{SymbolData, symbol_names}
use Rattle.tc_isa.specs.Relocations.{is_relocation_kind}
use Rattle.tc_asm.specs.Drafts.{UseData, DraftSectionData, DraftData, count_of_uses, draft_section_names, draft_section_size_at}

-- each element of a list has the property: of a draft's sections, of their uses, or of its symbols
abbrev pub EachInDraft : {A : Type 0} → (A → Type 0) → List A → Type 0
EachInDraft P [] = Unit {0}
EachInDraft P (x ∷ xs) = P x × EachInDraft P xs

-- one of these names, those of a draft's sections or of its symbols, is this name
abbrev pub is_drafted_name : List (List ℕ) → List ℕ → Bool
is_drafted_name names name = list_any (λ n. bytes_eq name n) names

-- a name of objects that isn't in the list
abbrev pub IsNewDraftName : List (List ℕ) → List ℕ → Type 0
IsNewDraftName before name = IsNewObjectName (is_drafted_name before) name

-- names of objects, of which none occurs twice
abbrev pub AreDistinctDraftNames : List (List ℕ) → Type 0
AreDistinctDraftNames names = AllInTurn IsNewDraftName [] names

-- a label is in a section of the draft, within it or at its end
pub record IsLabelPlace (parts : List DraftSectionData) (p : Place) : Type 0 where
  pub section : p.section < length parts
  pub offset : p.offset ≤ draft_section_size_at parts p.section

-- the place of a symbol's label, if there is one, is in a section of the draft
abbrev pub IsLabelPlaceIfAny : List DraftSectionData → Option Place → Type 0
IsLabelPlaceIfAny parts None = Unit {0}
IsLabelPlaceIfAny parts (Some p) = IsLabelPlace parts p

-- the place of a symbol's label, if there is one, fits the fields of an object: a section below
-- 2^16, an offset below 2^32
abbrev pub LabelPlaceFitsObject : Option Place → Type 0
LabelPlaceFitsObject o = IfSome o (λ p. (p.section < 2 ^ 16) × (p.offset < 2 ^ 32))

-- uses of four bytes each, in order, of which none overlaps another: the first begins at `low` or
-- later, and the last ends by `size`
abbrev pub AreUsesDisjoint : ℕ → List UseData → ℕ → Type 0
AreUsesDisjoint low [] size = low ≤ size
AreUsesDisjoint low (u ∷ us) size = (low ≤ u.offset) × AreUsesDisjoint (u.offset + 4) us size

-- a use by a relocation of a symbol that has one of these names
pub record IsUseOfKnownSymbol (names : List (List ℕ)) (u : UseData) : Type 0 where
  pub kind : is_relocation_kind u.reference.kind ≡ true
  pub known : is_drafted_name names u.reference.name ≡ true

-- a section of a draft, no longer than the total, with uses of known symbols that don't overlap
pub record IsDraftSection (names : List (List ℕ)) (total : ℕ) (p : DraftSectionData) : Type 0 where
  pub small : length p.bytes ≤ total
  pub spaced : AreUsesDisjoint 0 p.uses (length p.bytes)
  pub uses : EachInDraft (IsUseOfKnownSymbol names) p.uses

-- the draft of lines that break no rule: distinct names, right counts, all within the limits of an
-- object
pub record IsWellFormedDraft (d : DraftData) : Type 0 where
  pub few_parts : length d.parts ≤ 64
  pub few_symbols : length d.symbols < 2 ^ 16
  pub few_relocs : d.count < 2 ^ 16
  pub count : count_of_uses d.parts ≡ d.count
  pub total : d.total ≤ 2 ^ 24
  pub parts_named : AreDistinctDraftNames (draft_section_names d.parts)
  pub symbols_named : AreDistinctDraftNames (symbol_names d.symbols)
  pub places : EachInDraft (λ (s : SymbolData). IsLabelPlaceIfAny d.parts s.entry.place) d.symbols
  pub parts : EachInDraft (IsDraftSection (symbol_names d.symbols) d.total) d.parts
