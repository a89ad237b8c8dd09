-- The number of items of a line fits a byte.
use Rattle.std.proofs.Common.{◌≡◌, ◌≤◌, ◌+◌, ◌==◌, ℕ, List, [], ◌∷◌, length, take, drop, map, Option, Some, None, Result, Ok, Err, refl, length-drop, arith}
use Rattle.std.specs.Prelude.{codes}
use Rattle.std.specs.List.{slice_split}
use Rattle.std.specs.Option.{option_map_or}
use Rattle.std.specs.Str.{bytes_eq}
use Rattle.std.proofs.lemmas.List.{length-map}
use Rattle.std.proofs.lemmas.List.Splits.{length-slice_split}
use Rattle.std.proofs.lemmas.List.Sums.{count_by-le-length}
use Rattle.tc_lex.specs.declared.kinds.Token.{Token}
use Rattle.tc_lex.specs.declared.kinds.TokenKind.TheVariants as kind
use Rattle.tc_lex.specs.Cut.{tokens_of, IsTokenFault, AreTokens}
use Rattle.tc_lex.proofs.LineLaws.{cut_reads, fault_reads}
use Rattle.tc_lex.specs.Pieces.{PieceData, is_token_kind, token_text}
use Rattle.tc_lex.specs.Operands.{OperandData, operand_of_tokens, operands_of_tokens, is_comma}
use Rattle.tc_stmt.specs.RowFields.{RowFieldsData}
use Rattle.tc_stmt.specs.StatementRow.{row_of_statement}
use Rattle.tc_stmt.proofs.Cases.{by_test}
use Rattle.tc_stmt.specs.Items.{ItemData, section, global}
use Rattle.tc_stmt.specs.DataValues.{value_item}
use Rattle.tc_stmt.specs.Lines.{LineData, line_data, only_operand_name, named_line, space_line, values_line, code_line, statement_line, line_from, has_label, tokens_line, line_token_with_text, label_of, label_of_text, meaning_of_cut_line, line_of_text}

-- a line that adds at most this many items
record Few (most : ℕ) (l : LineData) : Type 0 where
  items : length l.items ≤ most

word_few : (make : List ℕ → ItemData) (o : Option (List ℕ)) → Few 1 (option_map_or (λ name. line_data 15 (make name ∷ [])) o (line_data 3 []))
word_few make None = record { items = omega arith }
word_few make (Some name) = record { items = omega arith }

named_few : (make : List ℕ → ItemData) (os : List OperandData) → Few 65 (named_line make os)
unfolding named_line
named_few make os = let h = word_few make (only_operand_name os) in record { items = omega (arith, h.items) }

space_few : (os : List OperandData) → Few 65 (space_line os)
unfolding space_line
space_few [] = record { items = omega arith }
space_few (o ∷ []) = record { items = omega arith }
space_few (o ∷ p ∷ os) = record { items = omega arith }

code_few : (name : List ℕ) (q : Result (ℕ × RowFieldsData) ℕ) → Few 65 (code_line name q)
code_few name (Ok found) = record { items = omega arith }
code_few name (Err rule) = record { items = omega arith }

values_few : (width : ℕ) (os : List OperandData) → length os ≤ 65 → Few 65 (values_line width os)
unfolding values_line
values_few width os h = record { items = omega (arith, h, length-map os (value_item width)) }

stated_few : (name : List ℕ) (os : List OperandData) → length os ≤ 65 → Few 65 (statement_line name os)
unfolding statement_line
stated_few name os h =
    by_test (Few 65) (bytes_eq name (codes ".section")) _ _ (λ e. named_few section os)
    (λ e. by_test (Few 65) (bytes_eq name (codes ".global")) _ _ (λ e. named_few global os)
    (λ e. by_test (Few 65) (bytes_eq name (codes ".byte")) _ _ (λ e. values_few 1 os h)
    (λ e. by_test (Few 65) (bytes_eq name (codes ".half")) _ _ (λ e. values_few 2 os h)
    (λ e. by_test (Few 65) (bytes_eq name (codes ".word")) _ _ (λ e. values_few 4 os h)
    (λ e. by_test (Few 65) (bytes_eq name (codes ".space")) _ _ (λ e. space_few os)
    (λ e. code_few name (row_of_statement name os)))))))

operands_few : (ps : List PieceData) → length (operands_of_tokens ps) ≤ length ps + 1
unfolding operands_of_tokens
operands_few [] = omega arith
operands_few (p ∷ ps) =
    let parts = slice_split is_comma (p ∷ ps) in
    omega (arith, length-map parts operand_of_tokens, length-slice_split is_comma (p ∷ ps), count_by-le-length is_comma (p ∷ ps))

from_few : (ps : List PieceData) (at : ℕ) → length ps ≤ 64 → Few 65 (line_from ps at)
unfolding line_from
from_few ps at h =
    by_test (Few 65) (length ps == at) _ _ (λ e. record { items = omega arith })
    (λ e. by_test (Few 65) (is_token_kind ps at kind.Word) _ _
    (λ e. stated_few (token_text ps at) (operands_of_tokens (drop (at + 1) ps)) (omega (arith, h, operands_few (drop (at + 1) ps), length-drop (at + 1) ps)))
    (λ e. record { items = omega arith }))

pieces_few : (ps : List PieceData) → length ps ≤ 64 → Few 66 (tokens_line ps)
unfolding tokens_line
pieces_few ps h =
    by_test (Few 66) (has_label ps) _ _
    (λ e. let k = from_few ps 2 h in record { items = omega (arith, k.items) })
    (λ e. let k = from_few ps 0 h in record { items = omega (arith, k.items) })

label_few : (ps : List PieceData) → Few 66 (line_data 1 (label_of ps))
unfolding label_of
label_few ps = by_test (λ (is : List ItemData). Few 66 (line_data 1 is)) (has_label ps) _ _ (λ e. record { items = omega arith }) (λ e. record { items = omega arith })

before_few : (text : List ℕ) (q : Result (List Token) ℕ) → Few 66 (line_data 1 (label_of_text text q))
before_few text (Ok ts) = label_few (map (line_token_with_text text) ts)
before_few text (Err at) = record { items = omega arith }

cut_few : (line : List ℕ) (q : Result (List Token) ℕ) → tokens_of line ≡ q → Few 66 (meaning_of_cut_line line q)
cut_few line (Ok ts) e = let c = cut_reads line ts e in pieces_few (map (line_token_with_text line) ts) (omega (arith, c.few, length-map ts (line_token_with_text line)))
cut_few line (Err at) e = before_few (take at line) (tokens_of (take at line))

pub line_few : (line : List ℕ) → length (line_of_text line).items ≤ 66
line_few line = let h = cut_few line (tokens_of line) refl in h.items

-- ---- lines that can't be cut
tokens_within : (line : List ℕ) (low stop : ℕ) (ts : List Token) → AreTokens line low stop ts → stop ≤ length line
tokens_within line low stop [] h = h.within
tokens_within line low stop (t ∷ ts) h = tokens_within line t.to stop ts h.1

fault_within : (line : List ℕ) (at : ℕ) → IsTokenFault line 0 64 at → at ≤ length line
fault_within line at h = tokens_within line 0 at h.before h.tokens

pub uncut_within : (line : List ℕ) (at : ℕ) → tokens_of line ≡ Err at → at ≤ length line
uncut_within line at e = fault_within line at (fault_reads line at e)
