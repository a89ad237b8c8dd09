-- The rules that depend on the earlier lines or on the whole source, where 15 is none, and the
-- least one that a source breaks.
use Rattle.std.specs.Prelude.{ℕ, Bool, ◌&&◌, ◌||◌, not, nat_lt, min, if◌then◌else◌, List, length, Option, Some, None, is_some, ◌∷◌, ◌≡◌, ◌≢◌, ◌+◌, ◌<◌, take, slice_index_or, []}
use Rattle.tc_stmt.specs.SourceRules.{label_twice, no_rule, no_section, bad_name, past_limits, undefined_global}
use Rattle.tc_stmt.specs.Names.{is_source_name}
use Rattle.tc_stmt.specs.Items.{ReferenceData, ItemData, label, section, global, code, bytes, zeros}
use Rattle.tc_asm.specs.Symbols.{SymbolData, entry_in, place_in}
use Rattle.tc_isa.specs.Relocations.{is_relocation_kind}
use Rattle.tc_asm.specs.Drafts.{DraftData, has_current_section, has_room, section_number, row_fields_with_target, code_bytes, draft_after_item}
use Rattle.tc_stmt.specs.Lines.{LineData}
use Rattle.tc_asm.specs.DraftedSources.{draft_from_lines, symbols_of_lines}

-- rule 7 if the draft has a label of this name already, else no rule
abbrev pub rule_broken_by_label : DraftData → List ℕ → ℕ
rule_broken_by_label d name = if is_some (place_in d.symbols name) then label_twice else no_rule

-- rule 8 if the draft has no current section, which labels, instructions and data need, else no
-- rule
abbrev pub rule_broken_before_section : DraftData → ℕ
rule_broken_before_section d = if has_current_section d then no_rule else no_section

-- rule 9 if these bytes are no name that a source may use, else no rule
abbrev pub rule_broken_by_name : List ℕ → ℕ
rule_broken_by_name name = if is_source_name name then no_rule else bad_name

-- rule 13 if a section of this name would be the draft's 65th, else no rule
abbrev pub rule_broken_by_section_count : DraftData → List ℕ → ℕ
rule_broken_by_section_count d name = if nat_lt (section_number d.parts name) (length d.parts) || nat_lt (length d.parts) 64 then no_rule else past_limits

-- one more symbol doesn't break rule 13: there are fewer than 65,535
abbrev pub has_symbol_room : List SymbolData → Bool
has_symbol_room ss = nat_lt (length ss) 65535

-- rule 13 if a symbol of this name would be the draft's 65,536th, else no rule
abbrev pub rule_broken_by_symbol_count : DraftData → List ℕ → ℕ
rule_broken_by_symbol_count d name = if is_some (entry_in d.symbols name) || has_symbol_room d.symbols then no_rule else past_limits

-- rule 13 if the relocation that this reference needs would be the draft's 65,536th, else no rule
abbrev pub rule_broken_by_reloc_count : DraftData → ReferenceData → ℕ
rule_broken_by_reloc_count d r = if is_relocation_kind r.kind && not (nat_lt d.count 65535) then past_limits else no_rule

-- rule 13 if n more bytes would exceed the 16,777,216 bytes of all sections of a draft, else no
-- rule
abbrev pub rule_broken_by_byte_count : DraftData → ℕ → ℕ
rule_broken_by_byte_count d n = if has_room d n then no_rule else past_limits

-- rule 14 if no label of the source defines this global name, else no rule
abbrev pub rule_broken_by_undefined_global : List SymbolData → List ℕ → ℕ
rule_broken_by_undefined_global labels name = if is_some (place_in labels name) then no_rule else undefined_global

-- rule 13 if the draft has no room for the symbol of a reference or for its relocation, else no
-- rule
abbrev pub rule_broken_by_reference : DraftData → Option ReferenceData → ℕ
rule_broken_by_reference d None = no_rule
rule_broken_by_reference d (Some r) = min (rule_broken_by_symbol_count d r.name) (rule_broken_by_reloc_count d r)

-- the least rule that this many bytes and their symbol break as the next bytes of this draft, or no
-- rule
abbrev pub rule_broken_by_content : DraftData → ℕ → Option ReferenceData → ℕ
rule_broken_by_content d size r = min (rule_broken_before_section d) (min (rule_broken_by_byte_count d size) (rule_broken_by_reference d r))

-- The least rule that an item breaks after this draft, given the symbols of the whole source. Rules
-- 6, 10 and 11 are those of targets that are resolved at once.
unfoldable pub rule_broken_by_item : List SymbolData → DraftData → ItemData → ℕ
rule_broken_by_item labels d (label name) = min (min (rule_broken_by_label d name) (rule_broken_before_section d)) (min (rule_broken_by_name name) (rule_broken_by_symbol_count d name))
rule_broken_by_item labels d (section name) = min (rule_broken_by_name name) (rule_broken_by_section_count d name)
rule_broken_by_item labels d (global name) = min (rule_broken_by_name name) (min (rule_broken_by_symbol_count d name) (rule_broken_by_undefined_global labels name))
rule_broken_by_item labels d (code k f r) = min (row_fields_with_target labels d k f r).rule (rule_broken_by_content d (length (code_bytes labels d k f r)) r)
rule_broken_by_item labels d (bytes bs r) = rule_broken_by_content d (length bs) r
rule_broken_by_item labels d (zeros n) = min (rule_broken_before_section d) (rule_broken_by_byte_count d n)

-- the least rule that these items break, each after the one before it
abbrev pub rule_broken_by_items : List SymbolData → DraftData → List ItemData → ℕ
rule_broken_by_items labels d [] = no_rule
rule_broken_by_items labels d (i ∷ is) = min (rule_broken_by_item labels d i) (rule_broken_by_items labels (draft_after_item labels d i) is)

-- the least rule that a line breaks after this draft
unfoldable pub rule_broken_by_line : List SymbolData → DraftData → LineData → ℕ
rule_broken_by_line labels d l = min l.rule (rule_broken_by_items labels d l.items)

-- the least rule that a source's line at this place breaks, after the draft of the lines before it
abbrev pub rule_broken_by_source_line : List LineData → ℕ → LineData → ℕ
rule_broken_by_source_line lines k l = rule_broken_by_line (symbols_of_lines lines) (draft_from_lines (symbols_of_lines lines) (take k lines)) l

-- none of the first n lines of a source breaks a rule, each after the draft of the lines before it
abbrev pub LinesKeepRules : List LineData → ℕ → Type 0
LinesKeepRules lines n = (k : ℕ) (d : LineData) → k < n → rule_broken_by_source_line lines k (slice_index_or lines k d) ≡ no_rule

-- no line of a source breaks a rule
abbrev pub AllLinesKeepRules : List LineData → Type 0
AllLinesKeepRules lines = LinesKeepRules lines (length lines)

-- the number of the first line of a source that breaks a rule, and the least of the rules that it
-- breaks after the draft of the lines before it
pub record IsFirstBadLine (lines : List LineData) (line rule : ℕ) : Type 0 where
  pub place : ℕ
  pub within : place < length lines
  pub is : line ≡ place + 1
  pub broken : (d : LineData) → rule_broken_by_source_line lines place (slice_index_or lines place d) ≡ rule
  pub some : rule ≢ no_rule
  pub before : LinesKeepRules lines place
