-- The line of an instruction is read as the instruction.
use Rattle.std.proofs.Common.{◌≡◌, ◌≤◌, ◌*◌, ◌==◌, ◌&&◌, ℕ, Bool, true, false, cond, List, [], ◌∷◌, ◌++◌, length, map, Option, None, refl, ap, sym, subst, ◌∙◌, arith, append-nil, length-append}
use Rattle.std.proofs.lemmas.Bool.{and_parts}
use Rattle.std.specs.Prelude.{not}
use Rattle.std.specs.Option.{option_map_or}
use Rattle.std.specs.List.{list_all, slice_split}
use Rattle.std.proofs.Math.Dec.{eqb-suc-zero}
use Rattle.tc_lex.specs.declared.kinds.TokenKind.TheVariants as kind
use Rattle.tcd_base.specs.NameBytes.{is_name_byte, is_name_start}
use Rattle.tc_lex.specs.Texts.{is_run}
use Rattle.tc_isa.specs.Rows.{RowData}
use Rattle.tc_isa.specs.declared.table.Form.{Form}
use Rattle.tc_isa.specs.declared.fields.Fields.{Fields}
use Rattle.tc_isa.specs.Forms.{field_bounds}
use Rattle.tc_isa.specs.Insts.{InstData, IsInst, inst_fields}
use Rattle.tc_stmt.specs.declared.want.Want.{Want}
use Rattle.tc_stmt.specs.declared.want.Want.TheVariants.{Number, Target, Memory}
use Rattle.tc_stmt.specs.Wants.{wants_of}
use Rattle.tc_stmt.specs.RowFields.{field_of}
use Rattle.tc_lex.specs.Pieces.{PieceData, is_token_kind, token_text, kind_index}
use Rattle.tc_lex.specs.Operands.{OperandData, operand_of_tokens, operands_of_tokens, is_comma}
use Rattle.tc_stmt.specs.StatementRow.{row_of_statement}
use Rattle.tc_stmt.specs.Items.{code, label}
use Rattle.tc_stmt.specs.Lines.{LineData, line_data, tokens_line, line_from, statement_line, code_line}
use Rattle.tc_disasm.specs.Texts.{is_printed_negative, row_text, operands_text, instruction_text}
use Rattle.tc_stmt.specs.Displacements.{can_jump_back}
use Rattle.tc_disasm.specs.Tokens.{printed_token, operand_tokens, base_register_tokens, field_number_tokens, number_tokens}
use Rattle.tc_disasm.specs.Lexed.{IsTokenEnd}
use Rattle.tc_disasm.proofs.Suits.{wants_suit}
use Rattle.tc_disasm.proofs.Printing.{statement-printed}
use Rattle.tc_disasm.proofs.LineTokens.{Lexes, Reads, reads-tokens}
use Rattle.tc_disasm.proofs.TokenTexts.{lexes-word}
use Rattle.tc_disasm.proofs.OperandTexts.{row_tokens, other_tokens, lexes-operands, operands-stop, as_parted}
use Rattle.tc_disasm.proofs.Partings.{split_at, split_whole}
use Rattle.tc_disasm.proofs.RowNames.{named_at, stated_line-other}

-- ---- the first token of an operand
record Begins (ps : List PieceData) : Type 0 where
  first : PieceData
  others : List PieceData
  is : ps ≡ first ∷ others
  other : (kind_index first.kind == 3) ≡ false

begins-number : (b : Bool) (n : ℕ) → Begins (number_tokens b n)
unfolding kind_index
begins-number true n = record { first = _; others = _; is = refl; other = refl }
begins-number false n = record { first = _; others = _; is = refl; other = refl }

begins-operand : (form : Form) (f : Fields) (w : Want) → Begins (operand_tokens form f w)
unfolding operand_tokens kind_index
begins-operand form f (Number signed field) = begins-number (is_printed_negative signed (field_of field (field_bounds form)) (field_of field f)) _
begins-operand form f _ = record { first = _; others = _; is = refl; other = refl }

-- ---- no comma inside an operand, and few tokens
abbrev is_inner : PieceData → Bool
is_inner p = not (is_comma p)

record Inner (ps : List PieceData) (most : ℕ) : Type 0 where
  none : list_all is_inner ps ≡ true
  few : length ps ≤ most

inner-number : (b : Bool) (n : ℕ) → Inner (number_tokens b n) 2
unfolding kind_index
inner-number true n = record { none = refl; few = omega arith }
inner-number false n = record { none = refl; few = omega arith }

inner-target : (b : Bool) (name digits : List ℕ) → Inner (printed_token kind.Word name ∷ cond b (printed_token kind.Minus (45 ∷ [])) (printed_token kind.Plus (43 ∷ [])) ∷ printed_token kind.Number digits ∷ []) 6
unfolding kind_index
inner-target true name digits = record { none = refl; few = omega arith }
inner-target false name digits = record { none = refl; few = omega arith }

inner-base : (plus : Bool) (n : ℕ) (ps : List PieceData) → Inner ps 2 → Inner (base_register_tokens plus n ++ ps) 6
unfolding kind_index
inner-base true n ps h = record { none = h.none; few = let two = h.few in omega arith }
inner-base false n ps h = record { none = h.none; few = let two = h.few in omega arith }

wider : (ps : List PieceData) → Inner ps 2 → Inner ps 6
wider ps h = record { none = h.none; few = let two = h.few in omega arith }

inner-operand : (form : Form) (f : Fields) (w : Want) → Inner (operand_tokens form f w) 6
unfolding operand_tokens kind_index
inner-operand form f (Number signed field) = wider _ (inner-number (is_printed_negative signed (field_of field (field_bounds form)) (field_of field f)) _)
inner-operand form f Target = inner-target (is_printed_negative (can_jump_back form) (field_bounds form).k f.k) _ _
inner-operand form f (Memory plus true) = inner-base plus f.s2 (field_number_tokens true (field_bounds form).k f.k) (inner-number (is_printed_negative true (field_bounds form).k f.k) _)
inner-operand form f (Memory plus false) = inner-base plus f.s2 [] (record { none = refl; few = omega arith })
inner-operand form f _ = record { none = refl; few = omega arith }

few-others : (r : RowData) (f : Fields) (ws : List Want) → length (other_tokens r f ws) ≤ 7 * length ws
few-others r f [] = omega arith
few-others r f (w ∷ ws) =
    let here : length (operand_tokens r.form f w) ≤ 6 = (inner-operand r.form f w).few in
    let rest = few-others r f ws in
    omega (arith, length-append (operand_tokens r.form f w) (other_tokens r f ws))

few-tokens : (r : RowData) (f : Fields) (ws : List Want) → length (row_tokens r f ws) ≤ 7 * length ws
few-tokens r f [] = omega arith
few-tokens r f (w ∷ ws) =
    let here : length (operand_tokens r.form f w) ≤ 6 = (inner-operand r.form f w).few in
    let rest = few-others r f ws in
    omega (arith, length-append (operand_tokens r.form f w) (other_tokens r f ws))

-- ---- operands are parted at the commas
operands-some : (ps : List PieceData) → Begins ps → (more : List PieceData) → operands_of_tokens (ps ++ more) ≡ map operand_of_tokens (slice_split is_comma (ps ++ more))
unfolding operands_of_tokens
operands-some ps b more = subst (λ (qs : List PieceData). operands_of_tokens (qs ++ more) ≡ map operand_of_tokens (slice_split is_comma (qs ++ more))) (sym b.is) refl

parts-are : (r : RowData) (f : Fields) (w : Want) (ws : List Want) → slice_split is_comma (operand_tokens r.form f w ++ other_tokens r f ws) ≡ map (λ v. operand_tokens r.form f v) (w ∷ ws)
unfolding kind_index
parts-are r f w [] = ap (slice_split is_comma) (append-nil (operand_tokens r.form f w)) ∙ split_whole is_comma (operand_tokens r.form f w) (inner-operand r.form f w).none
parts-are r f w (v ∷ ws) =
    split_at is_comma (operand_tokens r.form f w) (printed_token kind.Comma (44 ∷ [])) (operand_tokens r.form f v ++ other_tokens r f ws) (inner-operand r.form f w).none refl
    ∙ ap (λ (parts : List (List PieceData)). operand_tokens r.form f w ∷ parts) (parts-are r f v ws)

map-operand : (r : RowData) (f : Fields) (ws : List Want) → map operand_of_tokens (map (λ v. operand_tokens r.form f v) ws) ≡ map (λ v. operand_of_tokens (operand_tokens r.form f v)) ws
map-operand r f [] = refl
map-operand r f (w ∷ ws) = ap (λ (os : List OperandData). operand_of_tokens (operand_tokens r.form f w) ∷ os) (map-operand r f ws)

pub operands-row : (r : RowData) (f : Fields) (ws : List Want) → operands_of_tokens (row_tokens r f ws) ≡ map (λ v. operand_of_tokens (operand_tokens r.form f v)) ws
unfolding operands_of_tokens
operands-row r f [] = refl
operands-row r f (w ∷ ws) =
    operands-some (operand_tokens r.form f w) (begins-operand r.form f w) (other_tokens r f ws)
    ∙ ap (map operand_of_tokens) (parts-are r f w ws)
    ∙ map-operand r f (w ∷ ws)

-- ---- a line that begins with a word and no label
no_label : (name : List ℕ) (qs : List PieceData) → is_token_kind qs 0 kind.Colon ≡ false → is_token_kind (printed_token kind.Word name ∷ qs) 1 kind.Colon ≡ false
unfolding is_token_kind
no_label name [] e = refl
no_label name (q ∷ qs) e = e

word_first : (name : List ℕ) (qs : List PieceData) → is_token_kind (printed_token kind.Word name ∷ qs) 0 kind.Word ≡ true
unfolding is_token_kind kind_index
word_first name qs = refl

text_first : (name : List ℕ) (qs : List PieceData) → token_text (printed_token kind.Word name ∷ qs) 0 ≡ name
unfolding token_text
text_first name qs = refl

pub pieces_line-word : (name : List ℕ) (qs : List PieceData) → is_token_kind qs 0 kind.Colon ≡ false → tokens_line (printed_token kind.Word name ∷ qs) ≡ statement_line name (operands_of_tokens qs)
unfolding tokens_line line_from
pieces_line-word name qs e =
    let ps : List PieceData = printed_token kind.Word name ∷ qs in
    let labelled : LineData = line_data (line_from ps 2).rule (label (token_text ps 0) ∷ (line_from ps 2).items) in
    ap (λ b. cond (b && is_token_kind ps 1 kind.Colon) labelled (line_from ps 0)) (word_first name qs)
    ∙ ap (λ b. cond b labelled (line_from ps 0)) (no_label name qs e)
    ∙ ap (λ b. cond b (line_data 15 []) (cond (is_token_kind ps 0 kind.Word) (statement_line (token_text ps 0) (operands_of_tokens qs)) (line_data 1 []))) (eqb-suc-zero (length qs))
    ∙ ap (λ b. cond b (statement_line (token_text ps 0) (operands_of_tokens qs)) (line_data 1 [])) (word_first name qs)
    ∙ ap (λ t. statement_line t (operands_of_tokens qs)) (text_first name qs)

no_colon : (r : RowData) (f : Fields) (ws : List Want) → is_token_kind (row_tokens r f ws) 0 kind.Colon ≡ false
unfolding is_token_kind kind_index
no_colon r f [] = refl
no_colon r f (w ∷ ws) =
    let b = begins-operand r.form f w in
    subst (λ (qs : List PieceData). is_token_kind (qs ++ other_tokens r f ws) 0 kind.Colon ≡ false) (sym b.is) b.other

-- ---- the whole line
lexes-name : (name rest : List ℕ) (ps : List PieceData) → is_run is_name_start is_name_byte name ≡ true → IsTokenEnd rest → Lexes rest ps → Lexes (name ++ rest) (printed_token kind.Word name ∷ ps)
lexes-name [] rest ps e stop h = cc
lexes-name (c ∷ cs) rest ps e stop h =
    let two = and_parts (is_name_start c) (list_all is_name_byte (c ∷ cs)) e in
    lexes-word c cs rest ps two.0 two.1 stop h

pub text_is : (i : InstData) (is : IsInst i) → instruction_text i ≡ row_text is.row (inst_fields i)
unfolding instruction_text
text_is i is = ap (λ (o : Option RowData). option_map_or (λ r. row_text r (inst_fields i)) o []) is.at

from_row : (r : RowData) (f : Fields) (more : List ℕ) (ps : List PieceData) → Lexes (r.name ++ (operands_text r.form f (wants_of r) ++ more)) ps → Lexes (row_text r f ++ more) ps
unfolding row_text
from_row r f more ps w = as_parted r.name (operands_text r.form f (wants_of r)) more ps w

lexes-row : (i : InstData) (is : IsInst i) (rest : List ℕ) → IsTokenEnd rest → Lexes rest [] → Lexes (instruction_text i ++ rest) (printed_token kind.Word is.row.name ∷ row_tokens is.row (inst_fields i) (wants_of is.row))
lexes-row i is rest stop h =
    let r = is.row in
    let f = inst_fields i in
    let tokens : List PieceData = row_tokens r f (wants_of r) in
    let operands_are = lexes-operands r f (wants_of r) rest [] (wants_suit i.row r is.at) is.fits.below stop h in
    let there = subst (λ (ps : List PieceData). Lexes (operands_text r.form f (wants_of r) ++ rest) ps) (append-nil tokens) operands_are in
    let whole = lexes-name r.name (operands_text r.form f (wants_of r) ++ rest) tokens (named_at i.row r is.at).word (operands-stop r f (wants_of r) rest stop) there in
    subst (λ (t : List ℕ). Lexes (t ++ rest) (printed_token kind.Word r.name ∷ tokens)) (sym (text_is i is)) (from_row r f rest (printed_token kind.Word r.name ∷ tokens) whole)

-- the line of an instruction breaks no rule, and adds the instruction
pub reads-row : (i : InstData) (is : IsInst i) (rest : List ℕ) → IsTokenEnd rest → Lexes rest [] → Reads (instruction_text i ++ rest) (line_data 15 (code i.row (inst_fields i) None ∷ []))
reads-row i is rest stop h =
    let r = is.row in
    let f = inst_fields i in
    let name = named_at i.row r is.at in
    let tokens = few-tokens r f (wants_of r) in
    let wants = name.few in
    reads-tokens (instruction_text i ++ rest) (printed_token kind.Word r.name ∷ row_tokens r f (wants_of r)) (line_data 15 (code i.row (inst_fields i) None ∷ [])) (lexes-row i is rest stop h) (omega arith)
    (pieces_line-word r.name (row_tokens r f (wants_of r)) (no_colon r f (wants_of r))
    ∙ stated_line-other r.name (operands_of_tokens (row_tokens r f (wants_of r))) name.other
    ∙ ap (λ os. code_line r.name (row_of_statement r.name os)) (operands-row r f (wants_of r))
    ∙ ap (code_line r.name) (statement-printed i is))
