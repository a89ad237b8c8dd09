-- Printed operands are cut into their tokens.
use Rattle.std.proofs.Common.{◌≡◌, ◌<◌, ◌≤◌, ◌-◌, ◌*◌, ◌^◌, ℕ, Bool, true, false, cond, List, [], ◌∷◌, ◌++◌, refl, sym, subst, arith, append_assoc}
use Rattle.std.proofs.lemmas.Bool.{and_parts}
use Rattle.std.specs.Prelude.{codes, nat_le}
use Rattle.std.specs.List.{list_all, flat_map}
use Rattle.std.specs.Fmt.{decimal}
use Rattle.tc_lex.specs.declared.kinds.TokenKind.TheVariants as kind
use Rattle.tcd_base.specs.NameBytes.{is_name_byte, is_name_start}
use Rattle.tc_lex.specs.Bytes.{is_digit}
use Rattle.tc_isa.specs.Rows.{RowData}
use Rattle.tc_isa.specs.declared.fields.Fields.{Fields}
use Rattle.tc_isa.specs.Forms.{field_bounds}
use Rattle.tc_isa.specs.InBounds.{AreFieldsBelow}
use Rattle.tc_stmt.specs.declared.want.Want.{Want}
use Rattle.tc_stmt.specs.declared.want.Want.TheVariants.{Reg, A10, Number, Target, Absolute, Memory}
use Rattle.tc_stmt.specs.RowFields.{field_of}
use Rattle.tc_lex.specs.Pieces.{PieceData}
use Rattle.tcd_text.specs.HexNumbers.{hex_word}
use Rattle.tc_disasm.specs.Texts.{is_printed_negative, printed_magnitude, number_text, target_text, register_text, base_register_text, absolute_text, absolute_operand_address, operand_text, operands_text}
use Rattle.tc_stmt.specs.Displacements.{can_jump_back}
use Rattle.tc_disasm.specs.Tokens.{printed_token, number_tokens, field_number_tokens, target_tokens, base_register_tokens, operand_tokens}
use Rattle.tc_disasm.specs.Lexed.{IsTokenEnd}
use Rattle.tc_disasm.proofs.Bounds.{field_of-below}
use Rattle.tc_disasm.proofs.Suits.{suits, is_bound}
use Rattle.tc_disasm.proofs.OwnFields.{small_of, at_most, size_of-small, halved, address-small}
use Rattle.tc_disasm.proofs.LineTokens.{Lexes, lexes-blank}
use Rattle.tc_disasm.proofs.TokenTexts.{lexes-word, lexes-register, lexes-decimal, lexes-hex, hex_word-is, hex_word-some, lexes-comma, lexes-open, lexes-close, lexes-plus, lexes-minus}

lexes-number : (signed : Bool) (bound v : ℕ) (rest : List ℕ) (ps : List PieceData) → printed_magnitude signed bound v < 2 ^ 64 → IsTokenEnd rest → Lexes rest ps
    → Lexes (number_text signed bound v ++ rest) (field_number_tokens signed bound v ++ ps)
unfolding number_text
lexes-number signed bound v rest ps small stop h = by_sign (is_printed_negative signed bound v) small
  where
    by_sign : (b : Bool) → cond b (bound - v) v < 2 ^ 64 → Lexes (cond b (45 ∷ decimal (bound - v)) (decimal v) ++ rest) (number_tokens b (cond b (bound - v) v) ++ ps)
    by_sign true few = lexes-minus (decimal (bound - v) ++ rest) (printed_token kind.Number (decimal (bound - v)) ∷ ps) (lexes-decimal (bound - v) rest ps few stop h)
    by_sign false few = lexes-decimal v rest ps few stop h

lexes-target : (ways : Bool) (bound k : ℕ) (rest : List ℕ) (ps : List PieceData) → 2 * printed_magnitude ways bound k < 2 ^ 64 → IsTokenEnd rest → Lexes rest ps
    → Lexes (target_text ways bound k ++ rest) (target_tokens ways bound k ++ ps)
unfolding target_text is_name_byte is_name_start is_digit
lexes-target ways bound k rest ps small stop h = by_sign (is_printed_negative ways bound k) small
  where
    by_sign : (b : Bool) → 2 * cond b (bound - k) k < 2 ^ 64
        → Lexes (46 ∷ (cond b (45 ∷ decimal (2 * (bound - k))) (43 ∷ decimal (2 * k)) ++ rest)) (printed_token kind.Word (codes ".") ∷ cond b (printed_token kind.Minus (45 ∷ [])) (printed_token kind.Plus (43 ∷ [])) ∷ printed_token kind.Number (decimal (2 * cond b (bound - k) k)) ∷ ps)
    by_sign true few =
        lexes-word 46 [] (45 ∷ (decimal (2 * (bound - k)) ++ rest)) (printed_token kind.Minus (45 ∷ []) ∷ printed_token kind.Number (decimal (2 * (bound - k))) ∷ ps) refl refl refl
        (lexes-minus (decimal (2 * (bound - k)) ++ rest) (printed_token kind.Number (decimal (2 * (bound - k))) ∷ ps) (lexes-decimal (2 * (bound - k)) rest ps few stop h))
    by_sign false few =
        lexes-word 46 [] (43 ∷ (decimal (2 * k) ++ rest)) (printed_token kind.Plus (43 ∷ []) ∷ printed_token kind.Number (decimal (2 * k)) ∷ ps) refl refl refl
        (lexes-plus (decimal (2 * k) ++ rest) (printed_token kind.Number (decimal (2 * k)) ∷ ps) (lexes-decimal (2 * k) rest ps few stop h))

-- a text that is parted otherwise
pub as_parted : (x y rest : List ℕ) (ps : List PieceData) → Lexes (x ++ (y ++ rest)) ps → Lexes ((x ++ y) ++ rest) ps
as_parted x y rest ps h = subst (λ (t : List ℕ). Lexes t ps) (sym (append_assoc x y rest)) h

lexes-base : (plus : Bool) (n : ℕ) (rest : List ℕ) (ps : List PieceData) → n < 2 ^ 64 → Lexes rest ps → Lexes (base_register_text plus n ++ rest) (base_register_tokens plus n ++ ps)
unfolding base_register_text is_name_byte is_name_start is_digit
lexes-base true n rest ps small h =
    let tail : List PieceData = printed_token kind.Plus (43 ∷ []) ∷ printed_token kind.Close (93 ∷ []) ∷ ps in
    lexes-open ((register_text true n ++ codes "+]") ++ rest) (printed_token kind.Word (register_text true n) ∷ tail)
    (as_parted (register_text true n) (codes "+]") rest (printed_token kind.Word (register_text true n) ∷ tail)
    (lexes-register true n (43 ∷ 93 ∷ rest) tail small refl (lexes-plus (93 ∷ rest) (printed_token kind.Close (93 ∷ []) ∷ ps) (lexes-close rest ps h))))
lexes-base false n rest ps small h =
    let tail : List PieceData = printed_token kind.Close (93 ∷ []) ∷ ps in
    lexes-open ((register_text true n ++ codes "]") ++ rest) (printed_token kind.Word (register_text true n) ∷ tail)
    (as_parted (register_text true n) (codes "]") rest (printed_token kind.Word (register_text true n) ∷ tail)
    (lexes-register true n (93 ∷ rest) tail small refl (lexes-close rest ps h)))

-- the text printed for a want
below_16 : (n b : ℕ) → n < b → b ≤ 16 → n < 2 ^ 64
below_16 n b h most = omega arith

pub lexes-operand : (r : RowData) (f : Fields) (w : Want) (rest : List ℕ) (ps : List PieceData) → suits r.form w ≡ true → AreFieldsBelow f (field_bounds r.form) → IsTokenEnd rest → Lexes rest ps
    → Lexes (operand_text r.form f w ++ rest) (operand_tokens r.form f w ++ ps)
unfolding suits operand_text operand_tokens is_name_byte is_name_start is_digit
lexes-operand r f (Reg bank field) rest ps s h stop go =
    lexes-register bank (field_of field f) rest ps (below_16 (field_of field f) (field_of field (field_bounds r.form)) (field_of-below field f (field_bounds r.form) h) (at_most (field_of field (field_bounds r.form)) 16 s)) stop go
lexes-operand r f A10 rest ps s h stop go = lexes-word 97 (49 ∷ 48 ∷ []) rest ps refl refl stop go
lexes-operand r f (Number signed field) rest ps s h stop go =
    let bound = field_of field (field_bounds r.form) in
    lexes-number signed bound (field_of field f) rest ps (halved (printed_magnitude signed bound (field_of field f)) (size_of-small signed bound (field_of field f) (field_of-below field f (field_bounds r.form) h) (small_of bound s))) stop go
lexes-operand r f Target rest ps s h stop go =
    lexes-target (can_jump_back r.form) (field_bounds r.form).k f.k rest ps (size_of-small (can_jump_back r.form) (field_bounds r.form).k f.k h.k (small_of (field_bounds r.form).k s)) stop go
lexes-operand r f Absolute rest ps s h stop go = unfold absolute_text in lexes-hex (hex_word (absolute_operand_address r.form f)) rest ps (hex_word-is (absolute_operand_address r.form f) (address-small r f)) (hex_word-some (absolute_operand_address r.form f)) stop go
lexes-operand r f (Memory plus true) rest ps s h stop go =
    let two = and_parts (nat_le (field_bounds r.form).s2 16) (is_bound (field_bounds r.form).k) s in
    let small = size_of-small true (field_bounds r.form).k f.k h.k (small_of (field_bounds r.form).k two.1) in
    let next = lexes-number true (field_bounds r.form).k f.k rest ps (halved (printed_magnitude true (field_bounds r.form).k f.k) small) stop go in
    by_plus plus (below_16 f.s2 (field_bounds r.form).s2 h.s2 (at_most (field_bounds r.form).s2 16 two.0)) next
  where
    by_plus : (p : Bool) → f.s2 < 2 ^ 64 → Lexes (number_text true (field_bounds r.form).k f.k ++ rest) (field_number_tokens true (field_bounds r.form).k f.k ++ ps)
        → Lexes ((base_register_text p f.s2 ++ number_text true (field_bounds r.form).k f.k) ++ rest) ((base_register_tokens p f.s2 ++ field_number_tokens true (field_bounds r.form).k f.k) ++ ps)
    by_plus p few next =
        as_parted (base_register_text p f.s2) (number_text true (field_bounds r.form).k f.k) rest ((base_register_tokens p f.s2 ++ field_number_tokens true (field_bounds r.form).k f.k) ++ ps)
        (subst (λ (qs : List PieceData). Lexes (base_register_text p f.s2 ++ (number_text true (field_bounds r.form).k f.k ++ rest)) qs) (sym (append_assoc (base_register_tokens p f.s2) (field_number_tokens true (field_bounds r.form).k f.k) ps))
        (lexes-base p f.s2 (number_text true (field_bounds r.form).k f.k ++ rest) (field_number_tokens true (field_bounds r.form).k f.k ++ ps) few next))
lexes-operand r f (Memory plus false) rest ps s h stop go =
    as_parted (base_register_text plus f.s2) [] rest ((base_register_tokens plus f.s2 ++ []) ++ ps)
    (subst (λ (qs : List PieceData). Lexes (base_register_text plus f.s2 ++ rest) qs) (sym (append_assoc (base_register_tokens plus f.s2) [] ps))
    (lexes-base plus f.s2 rest ps (below_16 f.s2 (field_bounds r.form).s2 h.s2 (at_most (field_bounds r.form).s2 16 s)) go))

-- ---- operands after the first

abbrev pub other_texts : RowData → Fields → List Want → List ℕ
other_texts r f ws = flat_map (λ v. codes ", " ++ operand_text r.form f v) ws

abbrev pub other_tokens : RowData → Fields → List Want → List PieceData
other_tokens r f ws = flat_map (λ v. printed_token kind.Comma (44 ∷ []) ∷ operand_tokens r.form f v) ws

others-stop : (r : RowData) (f : Fields) (ws : List Want) (rest : List ℕ) → IsTokenEnd rest → IsTokenEnd (other_texts r f ws ++ rest)
unfolding is_name_byte is_name_start is_digit
others-stop r f [] rest stop = stop
others-stop r f (w ∷ ws) rest stop = refl

lexes-others : (r : RowData) (f : Fields) (ws : List Want) (rest : List ℕ) (ps : List PieceData) → list_all (suits r.form) ws ≡ true → AreFieldsBelow f (field_bounds r.form) → IsTokenEnd rest → Lexes rest ps
    → Lexes (other_texts r f ws ++ rest) (other_tokens r f ws ++ ps)
lexes-others r f [] rest ps s h stop go = go
lexes-others r f (w ∷ ws) rest ps s h stop go =
    let two = and_parts (suits r.form w) (list_all (suits r.form) ws) s in
    let next = lexes-others r f ws rest ps two.1 h stop go in
    let here = lexes-operand r f w (other_texts r f ws ++ rest) (other_tokens r f ws ++ ps) two.0 h (others-stop r f ws rest stop) next in
    let tokens : (operand_tokens r.form f w ++ other_tokens r f ws) ++ ps ≡ operand_tokens r.form f w ++ (other_tokens r f ws ++ ps) = append_assoc (operand_tokens r.form f w) (other_tokens r f ws) ps in
    lexes-comma (32 ∷ ((operand_text r.form f w ++ other_texts r f ws) ++ rest)) ((operand_tokens r.form f w ++ other_tokens r f ws) ++ ps)
    (lexes-blank ((operand_text r.form f w ++ other_texts r f ws) ++ rest) ((operand_tokens r.form f w ++ other_tokens r f ws) ++ ps)
    (as_parted (operand_text r.form f w) (other_texts r f ws) rest ((operand_tokens r.form f w ++ other_tokens r f ws) ++ ps)
    (subst (λ (qs : List PieceData). Lexes (operand_text r.form f w ++ (other_texts r f ws ++ rest)) qs) (sym tokens) here)))

-- all operands of a row
abbrev pub row_tokens : RowData → Fields → List Want → List PieceData
row_tokens r f [] = []
row_tokens r f (w ∷ ws) = operand_tokens r.form f w ++ other_tokens r f ws

pub lexes-operands : (r : RowData) (f : Fields) (ws : List Want) (rest : List ℕ) (ps : List PieceData) → list_all (suits r.form) ws ≡ true → AreFieldsBelow f (field_bounds r.form) → IsTokenEnd rest → Lexes rest ps
    → Lexes (operands_text r.form f ws ++ rest) (row_tokens r f ws ++ ps)
unfolding operands_text
lexes-operands r f [] rest ps s h stop go = go
lexes-operands r f (w ∷ ws) rest ps s h stop go =
    let two = and_parts (suits r.form w) (list_all (suits r.form) ws) s in
    let next = lexes-others r f ws rest ps two.1 h stop go in
    let here = lexes-operand r f w (other_texts r f ws ++ rest) (other_tokens r f ws ++ ps) two.0 h (others-stop r f ws rest stop) next in
    let tokens : (operand_tokens r.form f w ++ other_tokens r f ws) ++ ps ≡ operand_tokens r.form f w ++ (other_tokens r f ws ++ ps) = append_assoc (operand_tokens r.form f w) (other_tokens r f ws) ps in
    lexes-blank ((operand_text r.form f w ++ other_texts r f ws) ++ rest) ((operand_tokens r.form f w ++ other_tokens r f ws) ++ ps)
    (as_parted (operand_text r.form f w) (other_texts r f ws) rest ((operand_tokens r.form f w ++ other_tokens r f ws) ++ ps)
    (subst (λ (qs : List PieceData). Lexes (operand_text r.form f w ++ (other_texts r f ws ++ rest)) qs) (sym tokens) here))

pub operands-stop : (r : RowData) (f : Fields) (ws : List Want) (rest : List ℕ) → IsTokenEnd rest → IsTokenEnd (operands_text r.form f ws ++ rest)
unfolding operands_text is_name_byte is_name_start is_digit
operands-stop r f [] rest stop = stop
operands-stop r f (w ∷ ws) rest stop = refl
