-- The draft of a source.
use Rattle.std.specs.Prelude.{ℕ, List, fold, []}
use Rattle.tc_stmt.specs.Lines.{LineData, lines_in}
use Rattle.tc_asm.specs.Symbols.{SymbolData}
use Rattle.tc_asm.specs.Drafts.{DraftData, draft_section_names, draft_after_item, empty_draft}

-- the draft of a source after a further line
unfoldable pub draft_after_line : List SymbolData → DraftData → LineData → DraftData
draft_after_line labels d l = fold (draft_after_item labels) d l.items

-- the draft of a source: that of all its lines, one after another, given the symbols of the whole
-- source
abbrev pub draft_from_lines : List SymbolData → List LineData → DraftData
draft_from_lines labels lines = fold (draft_after_line labels) empty_draft lines

-- the symbols of a source: those in the draft of all its lines, which don't depend on the targets
-- of its jumps
abbrev pub symbols_of_lines : List LineData → List SymbolData
symbols_of_lines lines = (draft_from_lines [] lines).symbols

-- the draft of all lines of a source
abbrev pub draft_in : List ℕ → DraftData
draft_in source = draft_from_lines (symbols_of_lines (lines_in source)) (lines_in source)

-- the symbols in the draft of a source, with the places of their labels
abbrev pub symbols_in : List ℕ → List SymbolData
symbols_in source = (draft_in source).symbols

-- the names of the sections in the draft of a source, in the order of their first line
abbrev pub section_names_in : List ℕ → List (List ℕ)
section_names_in source = draft_section_names (draft_in source).parts
