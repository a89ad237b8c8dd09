-- The second pass over a source, if its symbols are known: it adds none to its draft.
use Rattle.std.specs.Prelude.{ℕ, ◌&&◌, not, min, Bool, true, if◌then◌else◌, List, [], ◌∷◌, is_some}
use Rattle.tc_stmt.specs.SourceRules.{no_rule}
use Rattle.tc_stmt.specs.Items.{ItemData, label}
use Rattle.tc_asm.specs.Symbols.{SymbolData, place_in}
use Rattle.tc_asm.specs.Drafts.{DraftData, draft_after_item}
use Rattle.tc_asm.specs.Rules.{has_symbol_room, rule_broken_by_item}

-- a draft without its symbols, as the second pass keeps it if they are known
abbrev pub without_symbols : DraftData → DraftData
without_symbols d = record d { symbols = [] }

-- the draft without its symbols if the first pass found them all (`known`), else the whole draft:
-- what the second pass keeps
abbrev pub without_symbols_if : Bool → DraftData → DraftData
without_symbols_if known d = if known then without_symbols d else d

-- the item defines no label that these symbols have; true of items of other kinds
abbrev pub is_new_if_label : List SymbolData → ItemData → Bool
is_new_if_label ss (label name) = not (is_some (place_in ss name))
is_new_if_label ss i = true

-- before each item there is room for one more symbol, and no item defines a label again: so the
-- second pass knows all symbols
abbrev pub are_new_with_room : List SymbolData → DraftData → List ItemData → Bool
are_new_with_room labels d [] = true
are_new_with_room labels d (i ∷ is) = (has_symbol_room d.symbols && is_new_if_label d.symbols i) && are_new_with_room labels (draft_after_item labels d i) is

-- the least rule that items break in the second pass over a source; if the first pass found all
-- symbols (`known`), each draft is without them
abbrev pub rule_broken_in_second_pass : Bool → List SymbolData → DraftData → List ItemData → ℕ
rule_broken_in_second_pass known labels d [] = no_rule
rule_broken_in_second_pass known labels d (i ∷ is) = min (rule_broken_by_item labels (without_symbols_if known d) i) (rule_broken_in_second_pass known labels (draft_after_item labels d i) is)
