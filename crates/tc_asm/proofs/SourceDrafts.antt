-- The draft of a source that breaks no rule.
use Rattle.std.proofs.Common.{◌≡◌, ◌<◌, ◌≤◌, min, ℕ, suc, List, [], ◌∷◌, ◌++◌, length, take, get_or, sym, ap, subst, ◌∙◌, arith, append_assoc, append-nil}
use Rattle.std.specs.Prelude.{fold}
use Rattle.std.proofs.lemmas.List.Sums.{fold-append}
use Rattle.tc_stmt.specs.Items.{ItemData}
use Rattle.tc_stmt.specs.Lines.{LineData, lines_in, items_in}
use Rattle.tc_asm.specs.Symbols.{SymbolData}
use Rattle.tc_asm.specs.Drafts.{DraftData, empty_draft, draft_after_item}
use Rattle.tc_asm.specs.DraftedSources.{draft_from_lines, draft_after_line, symbols_of_lines, draft_in}
use Rattle.tc_asm.specs.Rules.{LinesKeepRules, rule_broken_by_item, rule_broken_by_items, rule_broken_by_line}
use Rattle.tc_asm.specs.DraftInvariants.{IsWellFormedDraft}
use Rattle.tc_asm.proofs.KeptLaws.{IsDraft-start, IsDraft-line}
use Rattle.tc_object.specs.Objects.{IsObject}
use Rattle.tc_asm.specs.Objects.{object_of_draft}
use Rattle.tc_asm.proofs.ObjectLaws.{IsObject-draft}

-- ---- lines after others break no rule
abbrev pub KeepsFrom : List SymbolData → DraftData → List LineData → Type 0
KeepsFrom labels d [] = Unit {0}
KeepsFrom labels d (l ∷ ls) = (rule_broken_by_line labels d l ≡ 15) × KeepsFrom labels (draft_after_line labels d l) ls

keeps_from : (labels : List SymbolData) (before rest : List LineData) → ((k : ℕ) (x : LineData) → k < length rest → rule_broken_by_line labels (draft_from_lines labels (before ++ take k rest)) (get_or rest k x) ≡ 15) →
    KeepsFrom labels (draft_from_lines labels before) rest
keeps_from labels before [] h = tt
keeps_from labels before (l ∷ ls) h =
    let step : draft_from_lines labels (before ++ l ∷ []) ≡ draft_after_line labels (draft_from_lines labels before) l = fold-append (draft_after_line labels) empty_draft before (l ∷ []) in
    let P : DraftData → Type 0 = λ d. KeepsFrom labels d ls in (
      ap (λ (b : List LineData). rule_broken_by_line labels (draft_from_lines labels b) l) (sym (append-nil before)) ∙ h 0 l (omega arith),
      subst P step (keeps_from labels (before ++ l ∷ []) ls (λ k x less.
          ap (λ (b : List LineData). rule_broken_by_line labels (draft_from_lines labels b) (get_or ls k x)) (append_assoc before (l ∷ []) (take k ls)) ∙ h (suc k) x (omega arith))),
    )

kept_draft : (labels : List SymbolData) (ls : List LineData) (d : DraftData) → IsWellFormedDraft d → KeepsFrom labels d ls → IsWellFormedDraft (fold (draft_after_line labels) d ls)
kept_draft labels [] d h k = h
kept_draft labels (l ∷ ls) d h k = kept_draft labels ls (draft_after_line labels d l) (IsDraft-line labels d l h k.0) k.1

-- ---- items
both : (a b : ℕ) → 15 ≤ a → 15 ≤ b → 15 ≤ min a b
both a b h k = omega arith

rules-append : (labels : List SymbolData) (d : DraftData) (xs ys : List ItemData) → 15 ≤ rule_broken_by_items labels d xs → 15 ≤ rule_broken_by_items labels (fold (draft_after_item labels) d xs) ys → 15 ≤ rule_broken_by_items labels d (xs ++ ys)
rules-append labels d [] ys h k = k
rules-append labels d (x ∷ xs) ys h k =
    let here : 15 ≤ rule_broken_by_item labels d x = omega arith in
    let more : 15 ≤ rule_broken_by_items labels (draft_after_item labels d x) xs = omega arith in
    both (rule_broken_by_item labels d x) (rule_broken_by_items labels (draft_after_item labels d x) (xs ++ ys)) here (rules-append labels (draft_after_item labels d x) xs ys more k)

line_items : (l : LineData) (rule : ℕ) → min l.rule rule ≡ 15 → 15 ≤ rule
line_items l rule e = omega arith

kept_items : (labels : List SymbolData) (ls : List LineData) (d : DraftData) → KeepsFrom labels d ls → 15 ≤ rule_broken_by_items labels d (items_in ls)
unfolding draft_after_line rule_broken_by_line
kept_items labels [] d k = omega arith
kept_items labels (l ∷ ls) d k =
    rules-append labels d l.items (items_in ls) (line_items l (rule_broken_by_items labels d l.items) k.0) (kept_items labels ls (fold (draft_after_item labels) d l.items) k.1)

-- ---- a source
source_keeps : (source : List ℕ) → LinesKeepRules (lines_in source) (length (lines_in source)) → KeepsFrom (symbols_of_lines (lines_in source)) empty_draft (lines_in source)
source_keeps source h = keeps_from (symbols_of_lines (lines_in source)) [] (lines_in source) (λ k x less. h k x less)

pub source_draft : (source : List ℕ) → LinesKeepRules (lines_in source) (length (lines_in source)) → IsWellFormedDraft (draft_in source)
source_draft source h = kept_draft (symbols_of_lines (lines_in source)) (lines_in source) empty_draft IsDraft-start (source_keeps source h)

pub source_items : (source : List ℕ) → LinesKeepRules (lines_in source) (length (lines_in source)) → 15 ≤ rule_broken_by_items (symbols_of_lines (lines_in source)) empty_draft (items_in (lines_in source))
source_items source h = kept_items (symbols_of_lines (lines_in source)) (lines_in source) empty_draft (source_keeps source h)

pub source_object : (source : List ℕ) → LinesKeepRules (lines_in source) (length (lines_in source)) → IsObject (object_of_draft (draft_in source))
source_object source h = IsObject-draft (draft_in source) (source_draft source h)
