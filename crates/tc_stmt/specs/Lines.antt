-- The meaning of a line by itself.
use Rattle.std.specs.Prelude.{ℕ, ◌+◌, ◌++◌, ◌==◌, ◌&&◌, Bool, false, if◌then◌else◌, List, ◌∷◌, codes, take, drop, length, map, Option, Some, None, Result, Ok, Err, []}
use Rattle.std.specs.Option.{option_map_or}
use Rattle.std.specs.List.{flat_map, slice_split}
use Rattle.std.specs.Str.{bytes_eq}
use Rattle.tc_stmt.specs.SourceRules.{bad_token, no_rule, wrong_operands}
use Rattle.tc_lex.specs.declared.kinds.Token.{Token}
use Rattle.tc_lex.specs.declared.kinds.TokenKind.TheVariants as kind
use Rattle.tc_lex.specs.Cut.{tokens_of}
use Rattle.tc_isa.specs.Rows.{is_32_bit_row}
use Rattle.tc_stmt.specs.RowIndex.{row_of_name}
use Rattle.tc_lex.specs.Pieces.{PieceData, is_token_kind, token_text, piece_of_token as with_text}
use Rattle.tc_lex.specs.Operands.{OperandData, operands_of_tokens}
use Rattle.tc_stmt.specs.RowFields.{RowFieldsData}
use Rattle.tc_stmt.specs.OperandForms.{is_name_operand}
use Rattle.tc_stmt.specs.StatementRow.{row_of_statement}
use Rattle.tc_stmt.specs.Items.{ItemData, label, section, global, code, zeros}
use Rattle.tc_stmt.specs.DataValues.{value_item, rule_broken_by_space, space_item, rule_broken_by_values}

-- the least rule that a line breaks by itself (15 is none), and the items that it adds to its
-- source
pub record LineData : Type 0 where
  pub rule : ℕ
  pub items : List ItemData

-- a line that breaks this rule by itself and adds these items
abbrev pub line_data : ℕ → List ItemData → LineData
line_data rule items = record { rule = rule; items = items }

-- a line whose items come after these
abbrev pub line_after_items : List ItemData → LineData → LineData
line_after_items is l = line_data l.rule (is ++ l.items)

-- ---- statements
-- the operand is a name without brackets, as `.section` and `.global` want
unfoldable pub is_unbracketed_name : OperandData → Bool
is_unbracketed_name o = if o.is_memory then false else is_name_operand o.value.shape

-- the name that gives a line `.section NAME` or `.global NAME` its meaning, if it is the line's
-- only operand
unfoldable pub only_operand_name : List OperandData → Option (List ℕ)
only_operand_name [] = None
only_operand_name (o ∷ []) = if is_unbracketed_name o then Some o.value.name else None
only_operand_name (o ∷ p ∷ os) = None

-- a line `.section NAME` or `.global NAME`, whose item `make` gives; other operands break rule 3
unfoldable pub named_line : (List ℕ → ItemData) → List OperandData → LineData
named_line make os = option_map_or (λ name. line_data no_rule (make name ∷ [])) (only_operand_name os) (line_data wrong_operands [])

-- the meaning of a line that is `.space N`: the rule that the line breaks, and its zeros; any other
-- operands break rule 3
unfoldable pub space_line : List OperandData → LineData
space_line [] = line_data wrong_operands (zeros 0 ∷ [])
space_line (o ∷ []) = line_data (rule_broken_by_space o) (space_item o ∷ [])
space_line (o ∷ p ∷ os) = line_data wrong_operands (zeros 0 ∷ [])

-- the meaning of a line that is `.byte`, `.half` or `.word`: the rule that the line breaks, and an
-- item for each of its values of this many bytes
unfoldable pub values_line : ℕ → List OperandData → LineData
values_line width os = line_data (rule_broken_by_values width os) (map (value_item width) os)

-- the number of zeros that a line adds if its instruction breaks a rule: the size in bytes of the
-- instructions with its name, or 0 if there are none
unfoldable pub instruction_size : List ℕ → ℕ
instruction_size name = option_map_or (λ r. if is_32_bit_row r then 4 else 2) (row_of_name name) 0

-- the meaning of a line that is an instruction: its item; if a rule is broken, zeros in the size of
-- instructions with its name
abbrev pub code_line : List ℕ → Result (ℕ × RowFieldsData) ℕ → LineData
code_line name (Ok found) = line_data no_rule (code found.0 found.1.fields found.1.reference ∷ [])
code_line name (Err rule) = line_data rule (zeros (instruction_size name) ∷ [])

-- the meaning of a line that is a statement with these operands: a directive, or an instruction
unfoldable pub statement_line : List ℕ → List OperandData → LineData
statement_line name os =
    if bytes_eq name (codes ".section") then named_line section os
    else (if bytes_eq name (codes ".global") then named_line global os
    else (if bytes_eq name (codes ".byte") then values_line 1 os
    else (if bytes_eq name (codes ".half") then values_line 2 os
    else (if bytes_eq name (codes ".word") then values_line 4 os
    else (if bytes_eq name (codes ".space") then space_line os
    else code_line name (row_of_statement name os))))))

-- ---- lines
-- the meaning of a line's tokens from this place on: nothing, or a statement's name and its
-- operands; other tokens break rule 1
unfoldable pub line_from : List PieceData → ℕ → LineData
line_from ps at =
    if length ps == at then line_data no_rule []
    else (if is_token_kind ps at kind.Word then statement_line (token_text ps at) (operands_of_tokens (drop (at + 1) ps)) else line_data bad_token [])

-- the line begins with a label: a word and a `:`
abbrev pub has_label : List PieceData → Bool
has_label ps = is_token_kind ps 0 kind.Word && is_token_kind ps 1 kind.Colon

-- the meaning of a line that begins with this label: its item comes before those of the rest of the
-- line
abbrev pub line_with_label : List ℕ → LineData → LineData
line_with_label name l = line_data l.rule (label name ∷ l.items)

-- the meaning of a line with these tokens: its label, if the line begins with one, and what follows
unfoldable pub tokens_line : List PieceData → LineData
tokens_line ps = if has_label ps then line_with_label (token_text ps 0) (line_from ps 2) else line_from ps 0

-- a token of a source's line, with its text; the meaning of a line is read from such tokens
abbrev pub line_token_with_text : List ℕ → Token → PieceData
line_token_with_text line t = with_text line t

-- the label at the start of these tokens, if there is one
unfoldable pub label_of : List PieceData → List ItemData
label_of ps = if has_label ps then label (token_text ps 0) ∷ [] else []

-- the label at the start of a text with these tokens, if there is one
abbrev pub label_of_text : List ℕ → Result (List Token) ℕ → List ItemData
label_of_text text (Ok ts) = label_of (map (line_token_with_text text) ts)
label_of_text text (Err at) = []

-- the line with these tokens; a line that can't be cut breaks rule 1, but the label before the
-- fault still defines its name
abbrev pub meaning_of_cut_line : List ℕ → Result (List Token) ℕ → LineData
meaning_of_cut_line line (Ok ts) = tokens_line (map (line_token_with_text line) ts)
meaning_of_cut_line line (Err at) = line_data bad_token (label_of_text (take at line) (tokens_of (take at line)))

-- the meaning of a line's text by itself: a byte outside the grammar or a 65th token breaks rule 1
abbrev pub line_of_text : List ℕ → LineData
line_of_text line = meaning_of_cut_line line (tokens_of line)

-- the lines of a source, separated by line feeds
abbrev pub lines_in : List ℕ → List LineData
lines_in source = map line_of_text (slice_split (λ c. c == 10) source)

-- the items that the meanings of these lines add to a source, in order, one line after another
abbrev pub items_in : List LineData → List ItemData
items_in lines = flat_map (λ (l : LineData). l.items) lines
