-- The statements of a source that have bytes, their offsets, and the sections that they make.
use Rattle.std.specs.Prelude.{◌≡◌, ℕ, ◌==◌, ◌&&◌, if◌then◌else◌, List, ◌∷◌, ◌++◌, length, take, drop, replicate, slice_get, Option, Some, None, ◌+◌, Bool, false, []}
use Rattle.std.specs.List.{flat_map}
use Rattle.tc_stmt.specs.Items.{ReferenceData, ItemData, label, section, global, code, bytes, zeros}
use Rattle.tc_stmt.specs.Lines.{LineData, items_in, lines_in}
use Rattle.tc_asm.specs.Symbols.{SymbolData}
use Rattle.tc_asm.specs.Drafts.{DraftData, empty_draft, has_current_section, has_room, code_bytes, draft_after_item, draft_section_bytes_at}
use Rattle.tc_asm.specs.DraftedSources.{draft_from_lines, symbols_of_lines, section_names_in}
use Rattle.tc_isa.specs.Relocations.{is_relocation_kind}
use Rattle.tc_object.specs.Objects.{SectionData}

-- a statement: its section, its bytes, in which the field of a symbol is zero, and its symbol
pub record StatementData : Type 0 where
  pub section : ℕ
  pub bytes : List ℕ
  pub reference : Option ReferenceData

-- the statement with these bytes and this symbol, in the section of this number
abbrev pub statement_data : ℕ → List ℕ → Option ReferenceData → StatementData
statement_data s bs r = record { section = s; bytes = bs; reference = r }

-- the statement that an item gives after this draft: an instruction's bytes, data or zeros; None
-- for labels, sections and global names
abbrev pub statement_of_item : List SymbolData → DraftData → ItemData → Option StatementData
statement_of_item labels d (label name) = None
statement_of_item labels d (section name) = None
statement_of_item labels d (global name) = None
statement_of_item labels d (code k f r) = Some (statement_data d.section (code_bytes labels d k f r) r)
statement_of_item labels d (bytes bs r) = Some (statement_data d.section bs r)
statement_of_item labels d (zeros n) = Some (statement_data d.section (replicate n 0) None)

-- a list of the statement, if the draft has a current section and room for its bytes, else an empty
-- list
abbrev pub statement_if_room : DraftData → Option StatementData → List StatementData
statement_if_room d None = []
statement_if_room d (Some t) = if has_current_section d && has_room d (length t.bytes) then t ∷ [] else []

-- the statements of these items after a draft, in order
abbrev pub statements_from : List SymbolData → DraftData → List ItemData → List StatementData
statements_from labels d [] = []
statements_from labels d (i ∷ is) = statement_if_room d (statement_of_item labels d i) ++ statements_from labels (draft_after_item labels d i) is

-- the statements of a source with these symbols, in order
abbrev pub statements_of_lines : List SymbolData → List LineData → List StatementData
statements_of_lines labels lines = statements_from labels empty_draft (items_in lines)

-- the bytes of a section: those of each statement in the section of this number, in order
abbrev pub section_bytes : ℕ → List StatementData → List ℕ
section_bytes s ts = flat_map (λ (t : StatementData). if t.section == s then t.bytes else []) ts

-- the offset of a statement: the total size of the earlier statements of its section
abbrev pub statement_offset : List StatementData → ℕ → ℕ → ℕ
statement_offset ts place s = length (section_bytes s (take place ts))

-- each section of the draft of any lines is the bytes of its statements in order
abbrev pub SectionsAreStatementBytes : Type 0
SectionsAreStatementBytes = (labels : List SymbolData) (lines : List LineData) (s : ℕ) → draft_section_bytes_at (draft_from_lines labels lines).parts s ≡ section_bytes s (statements_of_lines labels lines)

-- each statement of a source is found in its section: its bytes are there at its offset, the size
-- of the section's statements before it
abbrev pub StatementBytesAreAtOffset : Type 0
StatementBytesAreAtOffset = (ts : List StatementData) (place : ℕ) (t : StatementData) → slice_get ts place ≡ Some t
    → take (length t.bytes) (drop (statement_offset ts place t.section) (section_bytes t.section ts)) ≡ t.bytes

-- the statements of a source that have bytes, in order
abbrev pub statements_in : List ℕ → List StatementData
statements_in source = statements_of_lines (symbols_of_lines (lines_in source)) (lines_in source)

-- the sections that statements make: they have these names, are numbered from this number on, and
-- hold the bytes of their statements
abbrev pub sections_of_statements : List StatementData → ℕ → List (List ℕ) → List SectionData
sections_of_statements ts number [] = []
sections_of_statements ts number (name ∷ names) = record { name = name; bytes = section_bytes number ts } ∷ sections_of_statements ts (number + 1) names

-- the sections that the statements of a source make, each with the bytes of its statements
unfoldable pub sections_in : List ℕ → List SectionData
sections_in source = sections_of_statements (statements_in source) 0 (section_names_in source)

-- the symbol of a statement waits for its address
abbrev pub has_unresolved_symbol : Option ReferenceData → Bool
has_unresolved_symbol None = false
has_unresolved_symbol (Some r) = is_relocation_kind r.kind
