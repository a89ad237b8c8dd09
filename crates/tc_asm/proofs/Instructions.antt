-- Instructions of a source that breaks no rule are statements, and spell their rows.
use Rattle.std.proofs.Common.{◌≡◌, ◌≤◌, ◌+◌, ◌&&◌, ◌++◌, min, ℕ, true, cond, List, [], ◌∷◌, length, Option, Some, ap, subst, ◌∙◌, arith}
use Rattle.std.proofs.lemmas.Bool.{and_from}
use Rattle.std.specs.Prelude.{slice_get, fold}
use Rattle.tc_isa.specs.declared.fields.Fields.{Fields}
use Rattle.tc_stmt.specs.Items.{ReferenceData, ItemData, code}
use Rattle.tc_stmt.specs.Lines.{lines_in}
use Rattle.tc_asm.specs.Symbols.{SymbolData}
use Rattle.tc_asm.specs.Drafts.{DraftData, empty_draft, has_current_section, has_room, row_fields_with_target, code_bytes, draft_after_item}
use Rattle.tc_asm.specs.Rules.{rule_broken_before_section, rule_broken_by_byte_count, rule_broken_by_reference, rule_broken_by_content, rule_broken_by_item, rule_broken_by_items}
use Rattle.tc_asm.specs.DraftedSources.{symbols_of_lines}
use Rattle.tc_asm.specs.DraftInvariants.{EachInDraft}
use Rattle.tc_asm.specs.Statements.{StatementData, statement_data, statement_if_room, statements_from}
use Rattle.tc_asm.specs.InstructionLaws.{InstructionSpellsRow, InstructionsSpellRows}
use Rattle.tc_stmt.proofs.ListItems.{get_behind}
use Rattle.tc_asm.proofs.Uses.{statements-append, fits, fits_too, then_fifteen}
use Rattle.tc_asm.specs.ItemInvariants.{IsCodeOfSomeLine, IsItemOfSomeLine}
use Rattle.tc_asm.proofs.SourceItems.{source_are}
use Rattle.tc_asm.proofs.SourceDrafts.{source_items}
use Rattle.tc_asm.proofs.CodeSizes.{resolved_fits}
use Rattle.tc_asm.proofs.StatementItems.{each_there, rule_there}
use Rattle.tc_asm.proofs.Unfilled.{code_spelled, given_fields}

unfoldable pub code_spells : (labels : List SymbolData) (d : DraftData) (k : ℕ) (f : Fields) (o : Option ReferenceData) → IsCodeOfSomeLine k f o → InstructionSpellsRow k (code_bytes labels d k f o)
code_spells labels d k f o c = record {
  row = c.row;
  is_row = c.at;
  fields = (row_fields_with_target labels d k f o).fields;
  fits = resolved_fits labels d k f o c.row c.at c.symbols c.fits;
  spelled = code_spelled labels d k f o c;
}

-- if no rule is broken, there are a section and room
pub code_stands : (labels : List SymbolData) (d : DraftData) (k : ℕ) (f : Fields) (o : Option ReferenceData) → 15 ≤ rule_broken_by_item labels d (code k f o) → (has_current_section d && has_room d (length (code_bytes labels d k f o))) ≡ true
unfolding rule_broken_by_item
code_stands labels d k f o rule =
    let size : ℕ = length (code_bytes labels d k f o) in
    let content = fits_too (row_fields_with_target labels d k f o).rule (rule_broken_by_content d (length (code_bytes labels d k f o)) o) rule in
    let there : has_current_section d ≡ true = then_fifteen (has_current_section d) 8 (omega arith) (fits (rule_broken_before_section d) (min (rule_broken_by_byte_count d (length (code_bytes labels d k f o))) (rule_broken_by_reference d o)) content) in
    let room : has_room d (length (code_bytes labels d k f o)) ≡ true
    = then_fifteen (has_room d (length (code_bytes labels d k f o))) 13 (omega arith)
    (fits (rule_broken_by_byte_count d (length (code_bytes labels d k f o))) (rule_broken_by_reference d o) (fits_too (rule_broken_before_section d) (min (rule_broken_by_byte_count d (length (code_bytes labels d k f o))) (rule_broken_by_reference d o)) content)) in
    and_from (has_current_section d) (has_room d (length (code_bytes labels d k f o))) there room

stands_at : (labels : List SymbolData) (before after : List ItemData) (k : ℕ) (f : Fields) (o : Option ReferenceData) → 15 ≤ rule_broken_by_item labels (fold (draft_after_item labels) empty_draft before) (code k f o) →
    slice_get (statements_from labels empty_draft (before ++ code k f o ∷ after)) (length (statements_from labels empty_draft before))
    ≡ Some (statement_data (fold (draft_after_item labels) empty_draft before).section (code_bytes labels (fold (draft_after_item labels) empty_draft before) k f o) o)
stands_at labels before after k f o rule =
    let d : DraftData = fold (draft_after_item labels) empty_draft before in
    let t : StatementData = statement_data d.section (code_bytes labels d k f o) o in
    let rest : List StatementData = statements_from labels (draft_after_item labels d (code k f o)) after in
    let none : length (statements_from labels empty_draft before) ≡ length (statements_from labels empty_draft before) + 0 = omega arith in
    ap (λ (ts : List StatementData). slice_get ts (length (statements_from labels empty_draft before))) (statements-append 0 labels empty_draft before (code k f o ∷ after))
    ∙ get_behind (statements_from labels empty_draft before) (statement_if_room d (Some t) ++ rest) (length (statements_from labels empty_draft before)) 0 none
    ∙ ap (λ b. slice_get (cond b (t ∷ []) [] ++ rest) 0) (code_stands labels d k f o rule)

pub instructions_law : InstructionsSpellRows
unfolding code_spells
instructions_law source before after k f o keeps e =
    let labels : List SymbolData = symbols_of_lines (lines_in source) in
    let d : DraftData = fold (draft_after_item labels) empty_draft before in
    let E : List ItemData → Type 0 = λ xs. EachInDraft IsItemOfSomeLine xs in
    let R : List ItemData → Type 0 = λ xs. 15 ≤ rule_broken_by_items labels empty_draft xs in
    let is : IsCodeOfSomeLine k f o = each_there IsItemOfSomeLine before after (code k f o) (subst E e (source_are source)) in
    let rule = rule_there labels before after (code k f o) empty_draft (subst R e (source_items source keeps)) in
    record {
      bytes = code_bytes labels d k f o;
      spells = code_spells labels d k f o is;
      given = λ g. given_fields labels d k f o is.row is.at g;
      section = d.section;
      stands = ap (λ (xs : List ItemData). slice_get (statements_from labels empty_draft xs) (length (statements_from labels empty_draft before))) e ∙ stands_at labels before after k f o rule;
    }
