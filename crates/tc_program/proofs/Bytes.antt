-- The bytes of a source's sections, once linked.
use Rattle.std.proofs.Common.{◌≡◌, ◌≤◌, ◌+◌, ℕ, zero, suc, List, [], ◌∷◌, take, drop, Some, refl, sym, ap, ◌∙◌, arith}
use Rattle.std.specs.Prelude.{slice_get, fold}
use Rattle.std.proofs.lemmas.Bool.Decides.{Decides-eqb}
use Rattle.tc_object.specs.Objects.{SectionData, ObjectData}
use Rattle.tc_stmt.specs.Lines.{lines_in, items_in}
use Rattle.tc_asm.specs.Symbols.{SymbolData}
use Rattle.tc_asm.specs.Drafts.{UseData, DraftSectionData, empty_draft}
use Rattle.tc_asm.specs.DraftedSources.{symbols_of_lines, draft_in}
use Rattle.tc_asm.specs.Rules.{rule_broken_by_items}
use Rattle.tc_asm.specs.Objects.{section_of, object_of_draft}
use Rattle.tc_asm.specs.Statements.{StatementData, section_bytes, statement_offset, statements_in}
use Rattle.tc_asm.proofs.LaidLaws.{stands}
use Rattle.tc_link.specs.Placing.{PlacedData}
use Rattle.tc_link.specs.GlobalSymbols.{GlobalData}
use Rattle.tc_link.specs.Relocated.{sections_after_reloc, relocated_sections}
use Rattle.tc_asm.proofs.Uses.{GoodItems}
use Rattle.tc_program.proofs.Fields.{finished_at, relocs_written, filled_from, filled_bytes, filled_at, filled_offset, fields_written}
use Rattle.tc_program.proofs.Fields as fields
use Rattle.tc_asm.proofs.SourceParts.{have, part_is}

-- ---- bytes of a list
pub take_get : (n : ℕ) (xs : List ℕ) (k b : ℕ) → slice_get (take n xs) k ≡ Some b → slice_get xs k ≡ Some b
take_get zero [] k b e = cc
take_get zero (x ∷ xs) k b e = cc
take_get (suc n) [] k b e = cc
take_get (suc n) (x ∷ xs) zero b e = e
take_get (suc n) (x ∷ xs) (suc k) b e = take_get n xs k b e

pub drop_get : (m : ℕ) (xs : List ℕ) (k n b : ℕ) → n ≡ m + k → slice_get (drop m xs) k ≡ Some b → slice_get xs n ≡ Some b
drop_get zero xs k n b e h = let same : k ≡ n = omega arith in ap (slice_get xs) (sym same) ∙ h
drop_get (suc m) [] k n b e h = cc
drop_get (suc m) (x ∷ xs) k zero b e h = absurd (omega arith)
drop_get (suc m) (x ∷ xs) k (suc n) b e h = drop_get m xs k n b (omega arith) h

-- ---- a source
module _ (source : List ℕ) (good : GoodItems (symbols_of_lines (lines_in source)) empty_draft (items_in (lines_in source))) (rules : 15 ≤ rule_broken_by_items (symbols_of_lines (lines_in source)) empty_draft (items_in (lines_in source))) where
  module _ (g : List GlobalData) (p : PlacedData) (is : p.object ≡ object_of_draft (draft_in source)) where
    -- the bytes of a section with its relocations written
    pub final : (s : ℕ) (q : DraftSectionData) → slice_get (draft_in source).parts s ≡ Some q →
        slice_get (relocated_sections g p) s ≡ Some (record { name = q.name; bytes = section_bytes s (filled_from g p (draft_in source).symbols s 0 (statements_in source)) })
    unfolding relocated_sections
    final s q e =
        let part = part_is source good rules s q e in
        let same : 0 + s ≡ s = omega arith in
        let step : ℕ → SectionData → UseData → SectionData = fields.stepped g p (draft_in source).symbols in
        ap (λ (o : ObjectData). slice_get (fold (sections_after_reloc g p) o.sections o.relocs) s) is
        ∙ ap (λ (ss : List SectionData). slice_get ss s) (relocs_written g p (draft_in source).symbols (draft_in source).parts)
        ∙ finished_at g p (draft_in source).symbols 0 s (draft_in source).parts q e
        ∙ ap (λ n. Some (fold (step n) (section_of q) q.uses)) same
        ∙ ap (λ (bs : List ℕ). Some (fold (step s) (section_data q.name bs) q.uses)) part.0
        ∙ ap (λ (us : List UseData). Some (fold (step s) (section_data q.name (section_bytes s (statements_in source))) us)) part.1
        ∙ ap (λ (x : SectionData). Some x) (fields_written g p (draft_in source).symbols q.name s (statements_in source) [] (have source good rules))
      where
        section_data : List ℕ → List ℕ → SectionData
        section_data name bs = record { name = name; bytes = bs }

    -- a statement's bytes are at its offset
    pub statement_there : (j : ℕ) (t : StatementData) → slice_get (statements_in source) j ≡ Some t → (k b : ℕ) →
        slice_get (filled_bytes g p (draft_in source).symbols t.section (0 + statement_offset (statements_in source) j t.section) t.reference t.bytes) k ≡ Some b →
        slice_get (section_bytes t.section (filled_from g p (draft_in source).symbols t.section 0 (statements_in source))) (statement_offset (statements_in source) j t.section + k) ≡ Some b
    statement_there j t e k b h =
        let ts : List StatementData = statements_in source in
        let ss : List SymbolData = (draft_in source).symbols in
        let at = filled_at g p ss t.section 0 j ts t (have source good rules) e ((Decides-eqb t.section t.section).1 refl) in
        let here = stands (filled_from g p ss t.section 0 ts) j (record t { bytes = filled_bytes g p ss t.section (0 + statement_offset ts j t.section) t.reference t.bytes }) at in
        let place = filled_offset g p ss t.section 0 j ts (have source good rules) in
        let far : statement_offset ts j t.section + k ≡ statement_offset (filled_from g p ss t.section 0 ts) j t.section + k = ap (λ n. n + k) (sym place) in
        drop_get (statement_offset (filled_from g p ss t.section 0 ts) j t.section) (section_bytes t.section (filled_from g p ss t.section 0 ts)) k (statement_offset ts j t.section + k) b far
        (take_get _ _ k b (ap (λ (bs : List ℕ). slice_get bs k) here ∙ h))
