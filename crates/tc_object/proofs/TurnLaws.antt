-- What follows for each item of a list that is valid in turn.
use Rattle.std.proofs.Common.{◌<◌, ◌≤◌, ◌^◌, zero, suc, List, [], ◌∷◌, ◌++◌, length, arith}
use Rattle.std.specs.List.{All}
use Rattle.tc_object.specs.Objects.{SectionData, SymbolData, AllInTurn, IsSection, IsSymbol}

each_in_turn : {A : Type 0} (good : List A → A → Type 0) (P : A → Type 0) → ((before : List A) (x : A) → good before x → P x) → (before xs : List A) → AllInTurn good before xs → All P xs
each_in_turn good P each before [] h k d i = absurd (omega arith)
each_in_turn good P each before (x ∷ xs) h zero d i = each before x h.0
each_in_turn good P each before (x ∷ xs) h (suc k) d i = each_in_turn good P each (before ++ x ∷ []) xs h.1 k d (omega arith)

-- names and bytes whose lengths fit their fields
pub section_names_short : (ss : List SectionData) → AllInTurn IsSection [] ss → All (λ s. length s.name ≤ 64) ss
section_names_short ss h = each_in_turn IsSection (λ s. length s.name ≤ 64) (λ before s good. good.name.few) [] ss h

pub sections_small : (ss : List SectionData) → AllInTurn IsSection [] ss → All (λ s. length s.bytes < 2 ^ 32) ss
sections_small ss h = each_in_turn IsSection (λ s. length s.bytes < 2 ^ 32) (λ before s good. good.small) [] ss h

pub symbol_names_short : (sections : List SectionData) (ss : List SymbolData) → AllInTurn (IsSymbol sections) [] ss → All (λ s. length s.name ≤ 64) ss
symbol_names_short sections ss h = each_in_turn (IsSymbol sections) (λ s. length s.name ≤ 64) (λ before s good. good.name.few) [] ss h
