-- The invariant of a draft's parts, for the types of the code.
use Rattle.std.proofs.Common.{◌≡◌, ◌<◌, ◌≤◌, ◌+◌, ◌^◌, ◌&&◌, ◌++◌, ℕ, zero, suc, Bool, true, List, [], ◌∷◌, length, map, Option, None, Some, ap, arith}
use Rattle.std.specs.Prelude.{is_some, All}
use Rattle.std.specs.Bool.{then_some}
use Rattle.tc_object.specs.Names.{object_name_of, is_name_length}
use Rattle.tc_object.specs.Names as object
use Rattle.tc_object.specs.Objects.{AllInTurn}
use Rattle.std.proofs.lemmas.Bool.{le-leb, and_from}
use Rattle.tc_asm.specs.declared.symbols.Place.{Place}
use Rattle.tc_asm.specs.declared.sections.Part.{Part}
use Rattle.tc_asm.specs.declared.sections.Use.{Use}
use Rattle.tc_asm.specs.Symbols.{SymbolData, symbol_names}
use Rattle.tc_asm.specs.Drafts.{DraftSectionData, DraftData, draft_section_names, draft_section_size_at}
use Rattle.tc_asm.specs.DraftViews.{use_of, draft_section_of}
use Rattle.tc_asm.specs.DraftInvariants.{EachInDraft, IsNewDraftName, IsLabelPlaceIfAny, LabelPlaceFitsObject, AreUsesDisjoint, IsDraftSection, IsWellFormedDraft}
use Rattle.tc_asm.proofs.ListLaws.{each_weaker, spaced_end, all_from_each}

named : (before : List (List ℕ)) (name : List ℕ) → IsNewDraftName before name → is_some (object_name_of name) ≡ true
named before name h = by (is_name_length (length name)) (object.is_object_name name) length_is h.written
  where
    length_is : is_name_length (length name) ≡ true
    length_is = and_from _ _ (le-leb 1 (length name) h.some) (le-leb (length name) 64 h.few)

    by : (a b : Bool) → a ≡ true → b ≡ true → is_some (then_some (a && b) name) ≡ true
    by a b p q = ap (λ c. is_some (then_some c name)) (and_from a b p q)

parts_each : (before : List (List ℕ)) (parts : List Part) → AllInTurn IsNewDraftName before (draft_section_names (map draft_section_of parts)) → EachInDraft (λ (p : Part). is_some (object_name_of p.name.now) ≡ true) parts
parts_each before [] h = tt
parts_each before (p ∷ ps) h = (named before p.name.now h.0, parts_each (before ++ p.name.now ∷ []) ps h.1)

symbols_each : (before : List (List ℕ)) (ss : List SymbolData) → AllInTurn IsNewDraftName before (symbol_names ss) → EachInDraft (λ (s : SymbolData). is_some (object_name_of s.name) ≡ true) ss
symbols_each before [] h = tt
symbols_each before (s ∷ ss) h = (named before s.name h.0, symbols_each (before ++ s.name ∷ []) ss h.1)

pub parts_named : (parts : List Part) → AllInTurn IsNewDraftName [] (draft_section_names (map draft_section_of parts)) → All (λ (p : Part). is_some (object_name_of p.name.now) ≡ true) parts
parts_named parts h = all_from_each _ parts (parts_each [] parts h)

pub symbols_named : (ss : List SymbolData) → AllInTurn IsNewDraftName [] (symbol_names ss) → All (λ (s : SymbolData). is_some (object_name_of s.name) ≡ true) ss
symbols_named ss h = all_from_each _ ss (symbols_each [] ss h)

-- no section is longer than all sections together
pub size_small : (names : List (List ℕ)) (total : ℕ) (parts : List DraftSectionData) → EachInDraft (IsDraftSection names total) parts → (n : ℕ) → draft_section_size_at parts n ≤ total
size_small names total [] h n = omega arith
size_small names total (p ∷ ps) h zero = h.0.small
size_small names total (p ∷ ps) h (suc n) = size_small names total ps h.1 n

place_small : (parts : List DraftSectionData) → length parts ≤ 64 → ((n : ℕ) → draft_section_size_at parts n ≤ 2 ^ 24) → (o : Option Place) → IsLabelPlaceIfAny parts o → LabelPlaceFitsObject o
place_small parts few small None h = tt
place_small parts few small (Some p) h = (let s = h.section in omega arith, let o = h.offset in omega (arith, small p.section))

pub symbols_small : (d : DraftData) → IsWellFormedDraft d → All (λ (s : SymbolData). LabelPlaceFitsObject s.entry.place) d.symbols
symbols_small d h =
    all_from_each _ d.symbols (each_weaker _ _ (λ (s : SymbolData). place_small d.parts h.few_parts
    (λ n. let t = h.total in let s = size_small (symbol_names d.symbols) d.total d.parts h.parts n in omega arith) s.entry.place) d.symbols h.places)

uses_small : (low : ℕ) (us : List Use) (size : ℕ) → size ≤ 2 ^ 24 → AreUsesDisjoint low (map use_of us) size → EachInDraft (λ (u : Use). u.offset < 2 ^ 32) us
uses_small low [] size few h = tt
uses_small low (u ∷ us) size few h = (let ends = spaced_end (u.offset + 4) (map use_of us) size h.1 in omega arith, uses_small (u.offset + 4) us size few h.1)

parts_small : (names : List (List ℕ)) (total : ℕ) (parts : List Part) → total ≤ 2 ^ 24 → EachInDraft (IsDraftSection names total) (map draft_section_of parts) → EachInDraft (λ (p : Part). All (λ (u : Use). u.offset < 2 ^ 32) p.uses.items) parts
parts_small names total [] few h = tt
parts_small names total (p ∷ ps) few h =
    (all_from_each _ p.uses.items (uses_small 0 p.uses.items (length (draft_section_of p).bytes) (let s = h.0.small in omega arith) h.0.spaced), parts_small names total ps few h.1)

pub offsets_small : (names : List (List ℕ)) (total : ℕ) (parts : List Part) → total ≤ 2 ^ 24 → EachInDraft (IsDraftSection names total) (map draft_section_of parts) → All (λ (p : Part). All (λ (u : Use). u.offset < 2 ^ 32) p.uses.items) parts
offsets_small names total parts few h = all_from_each _ parts (parts_small names total parts few h)
