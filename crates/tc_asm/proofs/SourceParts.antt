-- The sections of a source: the bytes and the uses of its statements.
use Rattle.std.proofs.Common.{◌≡◌, ◌≤◌, ◌+◌, ℕ, zero, suc, Bool, true, false, cond, List, [], ◌∷◌, ◌++◌, Some, refl, sym, ap, ◌∙◌, arith, map}
use Rattle.std.specs.Prelude.{slice_get}
use Rattle.tc_object.specs.Objects.{SectionData}
use Rattle.tc_stmt.specs.Items.{ItemData, code, bytes, zeros}
use Rattle.tc_stmt.specs.Lines.{lines_in, items_in}
use Rattle.tc_asm.specs.Symbols.{SymbolData}
use Rattle.tc_asm.specs.Drafts.{DraftSectionData, DraftData, empty_draft, draft_after_item, draft_section_names, draft_section_bytes_at}
use Rattle.tc_asm.specs.DraftedSources.{symbols_of_lines, draft_in}
use Rattle.tc_asm.specs.Rules.{rule_broken_by_items}
use Rattle.tc_asm.specs.Objects.{section_of}
use Rattle.tc_asm.specs.Statements.{StatementData, statement_of_item, statement_if_room, statements_from, section_bytes, statements_in, sections_of_statements, sections_in}
use Rattle.tc_asm.proofs.LaidLaws.{drafted-bytes, lines-items}
use Rattle.tc_asm.proofs.Uses.{HasField, HaveFields, uses_from, uses_in, GoodItems, GoodItem, all_uses}

-- ---- a single part
pub part_bytes : (ps : List DraftSectionData) (s : ℕ) (q : DraftSectionData) → slice_get ps s ≡ Some q → draft_section_bytes_at ps s ≡ q.bytes
part_bytes [] s q e = cc
part_bytes (p ∷ ps) zero q e = let same : p ≡ q = cc in ap (λ (x : DraftSectionData). x.bytes) same
part_bytes (p ∷ ps) (suc s) q e = part_bytes ps s q e

part_uses : (ps : List DraftSectionData) (s : ℕ) (q : DraftSectionData) → slice_get ps s ≡ Some q → uses_in ps s ≡ q.uses
part_uses [] s q e = cc
part_uses (p ∷ ps) zero q e = let same : p ≡ q = cc in ap (λ (x : DraftSectionData). x.uses) same
part_uses (p ∷ ps) (suc s) q e = part_uses ps s q e

-- ---- the fields of valid items
fields_behind : (xs ys : List StatementData) → HaveFields xs → HaveFields ys → HaveFields (xs ++ ys)
fields_behind [] ys h k = k
fields_behind (x ∷ xs) ys h k = (h.0, fields_behind xs ys h.1 k)

standing_field : (b : Bool) (t : StatementData) → HasField t → HaveFields (cond b (t ∷ []) [])
standing_field true t h = (h, tt)
standing_field false t h = tt

good_field : (labels : List SymbolData) (d : DraftData) (i : ItemData) → GoodItem labels d i → HaveFields (statement_if_room d (statement_of_item labels d i))
good_field labels d (code k f r) g = standing_field _ _ (record { four = g.four })
good_field labels d (bytes bs r) g = standing_field _ _ (record { four = g.four })
good_field labels d (zeros n) g = standing_field _ _ (record { four = λ e. cc })
good_field labels d _ g = tt

good_fields : (labels : List SymbolData) (is : List ItemData) (d : DraftData) → GoodItems labels d is → HaveFields (statements_from labels d is)
good_fields labels [] d good = tt
good_fields labels (i ∷ is) d good =
    fields_behind (statement_if_room d (statement_of_item labels d i)) (statements_from labels (draft_after_item labels d i) is) (good_field labels d i good.0) (good_fields labels is (draft_after_item labels d i) good.1)

-- ---- a source
module _ (source : List ℕ) (good : GoodItems (symbols_of_lines (lines_in source)) empty_draft (items_in (lines_in source))) (rules : 15 ≤ rule_broken_by_items (symbols_of_lines (lines_in source)) empty_draft (items_in (lines_in source))) where
  pub have : HaveFields (statements_in source)
  have = good_fields (symbols_of_lines (lines_in source)) (items_in (lines_in source)) empty_draft good

  pub part_is : (s : ℕ) (q : DraftSectionData) → slice_get (draft_in source).parts s ≡ Some q → (q.bytes ≡ section_bytes s (statements_in source)) × (q.uses ≡ uses_from s 0 (statements_in source))
  part_is s q e = (
    sym (part_bytes (draft_in source).parts s q e) ∙ drafted-bytes (symbols_of_lines (lines_in source)) (lines_in source) s,
    sym (part_uses (draft_in source).parts s q e)
        ∙ ap (λ (d : DraftData). uses_in d.parts s) (lines-items (symbols_of_lines (lines_in source)) (lines_in source) empty_draft)
        ∙ all_uses s (symbols_of_lines (lines_in source)) (items_in (lines_in source)) good rules,
  )

-- ---- all sections
from_parts : (ts : List StatementData) (number : ℕ) (parts : List DraftSectionData) → ((s : ℕ) → draft_section_bytes_at parts s ≡ section_bytes (number + s) ts) → sections_of_statements ts number (draft_section_names parts) ≡ map section_of parts
from_parts ts number [] same = refl
from_parts ts number (p ∷ ps) same =
    let here : section_bytes number ts ≡ p.bytes = ap (λ n. section_bytes n ts) (add_none number) ∙ sym (same 0) in
    ap (λ (bs : List ℕ). record { name = p.name; bytes = bs } ∷ sections_of_statements ts (number + 1) (draft_section_names ps)) here
    ∙ ap (λ (ss : List SectionData). section_of p ∷ ss) (from_parts ts (number + 1) ps (λ s. same (suc s) ∙ ap (λ n. section_bytes n ts) (moved number s)))
  where
    add_none : (n : ℕ) → n ≡ n + 0
    add_none n = omega arith

    moved : (n s : ℕ) → n + suc s ≡ n + 1 + s
    moved n s = omega arith

-- the sections of a single source
pub sections_are : (source : List ℕ) → sections_in source ≡ map section_of (draft_in source).parts
unfolding sections_in
sections_are source = from_parts (statements_in source) 0 (draft_in source).parts (λ s. drafted-bytes (symbols_of_lines (lines_in source)) (lines_in source) s ∙ ap (λ n. section_bytes n (statements_in source)) (none_add s))
  where
    none_add : (s : ℕ) → s ≡ 0 + s
    none_add s = omega arith
