-- The sections and relocations of a source's object are those of its statements.
use Rattle.std.proofs.Common.{◌≡◌, ◌+◌, ◌==◌, ◌++◌, ℕ, suc, Bool, true, false, cond, List, [], ◌∷◌, length, map, Option, Some, None, refl, sym, ap, ◌∙◌, arith}
use Rattle.std.specs.Prelude.{slice_get}
use Rattle.std.proofs.lemmas.List.{map-append}
use Rattle.tc_stmt.specs.Items.{ReferenceData}
use Rattle.tc_object.specs.declared.relocs.Reloc.{Reloc}
use Rattle.tc_asm.specs.Symbols.{SymbolData, symbol_number}
use Rattle.tc_asm.specs.Drafts.{UseData, DraftSectionData, draft_section_names}
use Rattle.tc_asm.specs.Objects.{assembled_addend, reloc_of, relocs_of_sections, ObjectHasStatementSections}
use Rattle.tc_asm.specs.SourceRelocations.{statement_relocs, section_relocs_of, relocs_of_statements, ObjectHasStatementRelocations}
use Rattle.tc_asm.specs.Statements.{StatementData, statements_in, has_unresolved_symbol}
use Rattle.tc_asm.specs.DraftedSources.{draft_in, symbols_in}
use Rattle.tc_asm.proofs.Uses.{use_at, uses_from}
use Rattle.tc_asm.proofs.CodeSizes.{source_good}
use Rattle.tc_asm.proofs.SourceParts.{part_is, sections_are}
use Rattle.tc_asm.proofs.SourceDrafts.{source_items}

-- the relocations of a section's uses are those of its statements
relocs_match : (ss : List SymbolData) (s n : ℕ) (ts : List StatementData) → map (reloc_of ss s) (uses_from s n ts) ≡ section_relocs_of ss s n ts
relocs_match ss s n [] = refl
relocs_match ss s n (t ∷ ts) = by (t.section == s) (λ m. relocs_match ss s m ts)
  where
    one : (m : ℕ) (o : Option ReferenceData) → map (reloc_of ss s) (use_at m o) ≡ statement_relocs ss s m o
    one m None = refl
    one m (Some r) = by_open (has_unresolved_symbol (Some r))
      where
        by_open : (b : Bool) → map (reloc_of ss s) (cond {A = List UseData} b (record { offset = m; reference = r } ∷ []) [])
            ≡ cond {A = List Reloc} b (record { section = s; offset = m; kind = r.kind; symbol = symbol_number ss r.name; addend = assembled_addend r } ∷ []) []
        by_open true = refl
        by_open false = refl

    by : (b : Bool) → ((m : ℕ) → map (reloc_of ss s) (uses_from s m ts) ≡ section_relocs_of ss s m ts)
        → map (reloc_of ss s) (cond b (use_at n t.reference ++ uses_from s (n + length t.bytes) ts) (uses_from s n ts))
        ≡ cond b (statement_relocs ss s n t.reference ++ section_relocs_of ss s (n + length t.bytes) ts) (section_relocs_of ss s n ts)
    by true rec =
        map-append (reloc_of ss s) (use_at n t.reference) (uses_from s (n + length t.bytes) ts)
        ∙ ap (λ (rs : List Reloc). rs ++ map (reloc_of ss s) (uses_from s (n + length t.bytes) ts)) (one n t.reference)
        ∙ ap (λ (rs : List Reloc). statement_relocs ss s n t.reference ++ rs) (rec (n + length t.bytes))
    by false rec = rec n

-- section after section
relocs_all : (ss : List SymbolData) (ts : List StatementData) (section : ℕ) (parts : List DraftSectionData) → ((s : ℕ) (q : DraftSectionData) → slice_get parts s ≡ Some q → q.uses ≡ uses_from (section + s) 0 ts) →
    relocs_of_sections ss section parts ≡ relocs_of_statements ss ts section (draft_section_names parts)
relocs_all ss ts section [] h = refl
relocs_all ss ts section (p ∷ ps) h =
    let none : section + 0 ≡ section = omega arith in
    ap (λ (us : List UseData). map (reloc_of ss section) us ++ relocs_of_sections ss (section + 1) ps) (h 0 p refl ∙ ap (λ n. uses_from n 0 ts) none)
    ∙ ap (λ (rs : List Reloc). rs ++ relocs_of_sections ss (section + 1) ps) (relocs_match ss section 0 ts)
    ∙ ap (λ (rs : List Reloc). section_relocs_of ss section 0 ts ++ rs) (relocs_all ss ts (section + 1) ps (λ s q e. h (suc s) q e ∙ ap (λ n. uses_from n 0 ts) (moved s)))
  where
    moved : (s : ℕ) → section + suc s ≡ section + 1 + s
    moved s = omega arith

pub object_sections_law : ObjectHasStatementSections
object_sections_law source = sym (sections_are source)

pub relocations_law : ObjectHasStatementRelocations
relocations_law source keeps =
    relocs_all (symbols_in source) (statements_in source) 0 (draft_in source).parts
    (λ s q e. (part_is source (source_good source) (source_items source keeps) s q e).1 ∙ ap (λ n. uses_from n 0 (statements_in source)) (front s))
  where
    front : (s : ℕ) → s ≡ 0 + s
    front s = omega arith
