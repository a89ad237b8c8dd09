-- The relocations of a source's statements, and the laws of them.
use Rattle.std.specs.Prelude.{◌≡◌, ◌+◌, ◌==◌, ◌++◌, ℕ, true, if◌then◌else◌, List, ◌∷◌, length, slice_get, Some, Option, None, []}
use Rattle.tc_isa.specs.Relocations.{is_relocation_kind}
use Rattle.tc_reloc.specs.Fields.{with_reloc_field}
use Rattle.tc_stmt.specs.Items.{ReferenceData}
use Rattle.tc_object.specs.declared.relocs.Reloc.{Reloc}
use Rattle.tc_stmt.specs.Lines.{lines_in}
use Rattle.tc_asm.specs.Symbols.{SymbolData, symbol_number}
use Rattle.tc_asm.specs.DraftedSources.{draft_in, symbols_in, section_names_in}
use Rattle.tc_asm.specs.Rules.{AllLinesKeepRules}
use Rattle.tc_asm.specs.Objects.{object_of_draft, assembled_addend}
use Rattle.tc_asm.specs.Statements.{StatementData, statements_in, has_unresolved_symbol}

-- the relocation of a statement at this place, as a list: empty if the statement doesn't wait for
-- the address of a symbol
abbrev pub statement_relocs : List SymbolData → ℕ → ℕ → Option ReferenceData → List Reloc
statement_relocs symbols section offset None = []
statement_relocs symbols section offset (Some r) =
    if has_unresolved_symbol (Some r)
    then record { section = section; offset = offset; kind = r.kind; symbol = symbol_number symbols r.name; addend = assembled_addend r } ∷ []
    else []

-- the relocations that a source's statements need in this section, in order; the first of them in
-- the section is at this offset
abbrev pub section_relocs_of : List SymbolData → ℕ → ℕ → List StatementData → List Reloc
section_relocs_of symbols section offset [] = []
section_relocs_of symbols section offset (t ∷ ts) =
    if t.section == section
    then statement_relocs symbols section offset t.reference ++ section_relocs_of symbols section (offset + length t.bytes) ts
    else section_relocs_of symbols section offset ts

-- the relocations that a source's statements need, section by section: the sections have these
-- names, and are numbered from this number on
abbrev pub relocs_of_statements : List SymbolData → List StatementData → ℕ → List (List ℕ) → List Reloc
relocs_of_statements symbols ts section [] = []
relocs_of_statements symbols ts section (name ∷ names) = section_relocs_of symbols section 0 ts ++ relocs_of_statements symbols ts (section + 1) names

-- ---- laws

-- the object of a source that breaks no rule has the relocations of the statements that wait for
-- addresses, in order
abbrev pub ObjectHasStatementRelocations : Type 0
ObjectHasStatementRelocations = (source : List ℕ) → AllLinesKeepRules (lines_in source)
    → (object_of_draft (draft_in source)).relocs ≡ relocs_of_statements (symbols_in source) (statements_in source) 0 (section_names_in source)

-- the fields that relocations fill are zero: writing zero there changes nothing
abbrev pub RelocatedFieldsAreZero : Type 0
RelocatedFieldsAreZero = (source : List ℕ) (index : ℕ) (t : StatementData) (r : ReferenceData) → slice_get (statements_in source) index ≡ Some t → t.reference ≡ Some r → is_relocation_kind r.kind ≡ true
    → with_reloc_field r.kind t.bytes 0 ≡ t.bytes
