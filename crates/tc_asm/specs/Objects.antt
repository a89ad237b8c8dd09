-- The object of a draft.
use Rattle.std.specs.Prelude.{ℕ, Bool, ◌+◌, ◌-◌, ◌%◌, ◌^◌, if◌then◌else◌, List, ◌∷◌, ◌++◌, map, Option, Some, None, ◌≡◌, []}
use Rattle.tc_object.specs.Objects.{undefined_symbol, SectionData, ObjectData}
use Rattle.tc_object.specs.Objects as object
use Rattle.tc_object.specs.declared.relocs.Reloc.{Reloc}
use Rattle.tc_stmt.specs.Items.{ReferenceData}
use Rattle.tc_asm.specs.declared.symbols.Place.{Place}
use Rattle.tc_asm.specs.Symbols.{SymbolData, symbol_number}
use Rattle.tc_asm.specs.Drafts.{UseData, DraftSectionData, DraftData}
use Rattle.tc_asm.specs.DraftedSources.{draft_in}
use Rattle.tc_asm.specs.Statements.{sections_in}

-- a section of the draft as one of the object
abbrev pub section_of : DraftSectionData → SectionData
section_of p = record { name = p.name; bytes = p.bytes }

-- the symbol of an object with this name: undefined (0) if its label has no place, else local (1)
-- or global (2)
abbrev pub object_symbol : List ℕ → Bool → Option Place → object.SymbolData
object_symbol name is_global None = record { name = name; kind = undefined_symbol; section = 0; offset = 0 }
object_symbol name is_global (Some p) = record { name = name; kind = if is_global then 2 else 1; section = p.section; offset = p.offset }

-- a symbol of the draft as one of the object
abbrev pub symbol_of : SymbolData → object.SymbolData
symbol_of s = object_symbol s.name s.entry.is_global s.entry.place

-- the addend of an object's relocation: the number that a source adds to the symbol, modulo 2^32
abbrev pub assembled_addend : ReferenceData → ℕ
assembled_addend r = if r.minus then (2 ^ 32 - r.size % 2 ^ 32) % 2 ^ 32 else r.size % 2 ^ 32

-- the relocation for a use of a symbol in the section of this number
abbrev pub reloc_of : List SymbolData → ℕ → UseData → Reloc
reloc_of ss section u = record { section = section; offset = u.offset; kind = u.reference.kind; symbol = symbol_number ss u.reference.name; addend = assembled_addend u.reference }

-- the relocations of these sections, numbered from this number on
abbrev pub relocs_of_sections : List SymbolData → ℕ → List DraftSectionData → List Reloc
relocs_of_sections ss section [] = []
relocs_of_sections ss section (p ∷ ps) = map (reloc_of ss section) p.uses ++ relocs_of_sections ss (section + 1) ps

-- the relocations of all sections of a draft, one for each use of a symbol, in order
abbrev pub relocs_of_all_sections : List SymbolData → List DraftSectionData → List Reloc
relocs_of_all_sections ss ps = relocs_of_sections ss 0 ps

-- the object: sections and symbols in the order of the source, relocations in the order of their
-- places
abbrev pub object_of_draft : DraftData → ObjectData
object_of_draft d = record { sections = map section_of d.parts; symbols = map symbol_of d.symbols; relocs = relocs_of_all_sections d.symbols d.parts }

-- the object of any source has the sections that the source's statements make
abbrev pub ObjectHasStatementSections : Type 0
ObjectHasStatementSections = (source : List ℕ) → (object_of_draft (draft_in source)).sections ≡ sections_in source
