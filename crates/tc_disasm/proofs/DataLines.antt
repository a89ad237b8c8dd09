-- Lines of data, and lines that begin a section, are read as they were printed.
use Rattle.std.proofs.Common.{◌≡◌, ◌<◌, ◌+◌, ◌*◌, ◌/◌, ◌%◌, ◌^◌, ◌==◌, ℕ, true, false, cond, List, [], ◌∷◌, ◌++◌, take, Some, None, refl, ap, ◌∙◌, arith}
use Rattle.std.specs.Prelude.{codes, nat_lt, fold}
use Rattle.std.specs.Fmt.{decimal}
use Rattle.std.proofs.lemmas.Bool.Decides.{nat_tests}
use Rattle.tc_lex.specs.declared.kinds.TokenKind.TheVariants as kind
use Rattle.tcd_base.specs.NameBytes.{is_name_byte, is_name_start}
use Rattle.tc_lex.specs.Bytes.{is_digit}
use Rattle.tc_lex.specs.Cut.{has_hex_prefix}
use Rattle.tc_lex.specs.Pieces.{kind_index, PieceData, is_token_kind}
use Rattle.tcd_base.specs.Bytes.{four_bytes}
use Rattle.tc_lex.specs.declared.operand.Shape.TheVariants as shape
use Rattle.tc_lex.specs.Numbers.{token_number, append_digit}
use Rattle.tc_lex.specs.Operands.{OperandData, operand_of_tokens, operands_of_tokens, value_with_shape, plain_operand, number_operand_value}
use Rattle.tc_stmt.specs.OperandForms.{shape_index}
use Rattle.tc_stmt.specs.Items.{bytes, section}
use Rattle.tc_stmt.specs.DataValues.{rule_broken_by_value, value_item, rule_broken_by_values}
use Rattle.tc_stmt.specs.Lines.{line_data, tokens_line, statement_line, values_line, named_line, only_operand_name, is_unbracketed_name}
use Rattle.tcd_text.specs.HexNumbers.{hex_byte}
use Rattle.tc_disasm.specs.Tokens.{printed_token}
use Rattle.tc_disasm.specs.Lexed.{IsTokenEnd}
use Rattle.tc_disasm.proofs.Decimals.{decimal_is}
use Rattle.tc_disasm.proofs.Hexes.{is_hex-digit, added-byte, last-byte}
use Rattle.tc_disasm.proofs.OperandLaws.{operand-word}
use Rattle.tc_disasm.proofs.Filled.{operand-one}
use Rattle.tc_disasm.proofs.LineTokens.{Lexes, Reads, lexes-blank, reads-tokens}
use Rattle.tc_disasm.proofs.TokenTexts.{lexes-word, lexes-hex, hex_byte-is, hex_byte-some, digits_are_names}
use Rattle.tc_disasm.proofs.RowLines.{pieces_line-word}

-- a word and one operand of one token
one_operand : (name : List ℕ) (p : PieceData) → (kind_index p.kind == 3) ≡ false → (kind_index p.kind == 2) ≡ false
    → tokens_line (printed_token kind.Word name ∷ p ∷ []) ≡ statement_line name (operand_of_tokens (p ∷ []) ∷ [])
unfolding operands_of_tokens is_token_kind kind_index
one_operand name p no_colon no_comma = pieces_line-word name (p ∷ []) no_colon ∙ ap (statement_line name) (rw no_comma refl)

-- ---- data
front_half : (a b : ℕ) → b < 256 → has_hex_prefix (48 ∷ 120 ∷ (hex_byte b ++ hex_byte a)) ≡ true
unfolding has_hex_prefix hex_byte
front_half a b high = is_hex-digit (b / 16) (omega arith)

front_byte : (a : ℕ) → a < 256 → has_hex_prefix (48 ∷ 120 ∷ hex_byte a) ≡ true
unfolding has_hex_prefix hex_byte
front_byte a low = is_hex-digit (a / 16) (omega arith)

half_number : (a b : ℕ) → a < 256 → b < 256 → token_number (48 ∷ 120 ∷ (hex_byte b ++ hex_byte a)) ≡ Some (b * 256 + a)
unfolding token_number
half_number a b low high =
    ap (λ t. cond t (fold (append_digit 16) (Some 0) (hex_byte b ++ hex_byte a)) (fold (append_digit 10) (Some 0) (48 ∷ 120 ∷ (hex_byte b ++ hex_byte a)))) (front_half a b high)
    ∙ added-byte 0 b (hex_byte a) high (omega arith)
    ∙ ap (λ n. fold (append_digit 16) (Some n) (hex_byte a)) (omega arith)
    ∙ last-byte b a low (omega arith)

byte_number : (a : ℕ) → a < 256 → token_number (48 ∷ 120 ∷ hex_byte a) ≡ Some a
unfolding token_number
byte_number a low =
    ap (λ t. cond t (fold (append_digit 16) (Some 0) (hex_byte a)) (fold (append_digit 10) (Some 0) (48 ∷ 120 ∷ hex_byte a))) (front_byte a low)
    ∙ last-byte 0 a low (omega arith)
    ∙ ap (λ n. Some n) (omega arith)

-- a value that is a number which fits
values_one : (width n : ℕ) → nat_lt n (2 ^ (8 * width)) ≡ true → values_line width (plain_operand (value_with_shape shape.Number [] false n) ∷ []) ≡ line_data 15 (bytes (take width (four_bytes n)) None ∷ [])
unfolding values_line rule_broken_by_values rule_broken_by_value value_item shape_index
values_one width n small = rw small refl

half_bytes : (a b : ℕ) → a < 256 → b < 256 → take 2 (four_bytes (b * 256 + a)) ≡ a ∷ b ∷ []
half_bytes a b low high =
    let first : (b * 256 + a) % 256 ≡ a = omega arith in
    let second : (b * 256 + a) / 2 ^ 8 % 256 ≡ b = omega arith in
    rw (first, second) refl

byte_bytes : (a : ℕ) → a < 256 → take 1 (four_bytes a) ≡ a ∷ []
byte_bytes a low = let first : a % 256 ≡ a = omega arith in rw first refl

stated-half : (os : List OperandData) → statement_line (codes ".half") os ≡ values_line 2 os
unfolding statement_line
stated-half os = refl

stated-byte : (os : List OperandData) → statement_line (codes ".byte") os ≡ values_line 1 os
unfolding statement_line
stated-byte os = refl

stated-section : (os : List OperandData) → statement_line (codes ".section") os ≡ named_line section os
unfolding statement_line
stated-section os = refl

lexes-half : (a b : ℕ) (rest : List ℕ) → a < 256 → b < 256 → IsTokenEnd rest → Lexes rest [] → Lexes ((codes ".half 0x" ++ (hex_byte b ++ hex_byte a)) ++ rest) (printed_token kind.Word (codes ".half") ∷ printed_token kind.Number (48 ∷ 120 ∷ (hex_byte b ++ hex_byte a)) ∷ [])
unfolding is_name_start is_name_byte is_digit hex_byte
lexes-half a b rest low high stop h =
    let digits : List ℕ = hex_byte b ++ hex_byte a in
    let p : PieceData = printed_token kind.Number (48 ∷ 120 ∷ digits) in
    lexes-word 46 (104 ∷ 97 ∷ 108 ∷ 102 ∷ []) (32 ∷ 48 ∷ 120 ∷ (digits ++ rest)) (p ∷ []) refl refl refl
    (lexes-blank (48 ∷ 120 ∷ (digits ++ rest)) (p ∷ [])
    (lexes-hex digits rest [] (hex_byte-is b (hex_byte a) high (hex_byte-is a [] low refl)) (hex_byte-some b (hex_byte a)) stop h))

pub reads-half : (a b : ℕ) (rest : List ℕ) → a < 256 → b < 256 → IsTokenEnd rest → Lexes rest [] → Reads ((codes ".half 0x" ++ (hex_byte b ++ hex_byte a)) ++ rest) (line_data 15 (bytes (a ∷ b ∷ []) None ∷ []))
reads-half a b rest low high stop h =
    let digits : List ℕ = hex_byte b ++ hex_byte a in
    let p : PieceData = printed_token kind.Number (48 ∷ 120 ∷ digits) in
    reads-tokens ((codes ".half 0x" ++ digits) ++ rest) (printed_token kind.Word (codes ".half") ∷ p ∷ []) _ (lexes-half a b rest low high stop h) (omega arith)
    (one_operand (codes ".half") p (unfold kind_index in refl) (unfold kind_index in refl)
    ∙ ap (λ o. statement_line (codes ".half") (o ∷ [])) (operand-one (48 ∷ 120 ∷ digits) ∙ ap (λ n. plain_operand (number_operand_value false n)) (half_number a b low high))
    ∙ stated-half (plain_operand (value_with_shape shape.Number [] false (b * 256 + a)) ∷ [])
    ∙ values_one 2 (b * 256 + a) (grind (arith, nat_tests))
    ∙ ap (λ bs. line_data 15 (bytes bs None ∷ [])) (half_bytes a b low high))

lexes-byte : (a : ℕ) (rest : List ℕ) → a < 256 → IsTokenEnd rest → Lexes rest [] → Lexes ((codes ".byte 0x" ++ hex_byte a) ++ rest) (printed_token kind.Word (codes ".byte") ∷ printed_token kind.Number (48 ∷ 120 ∷ hex_byte a) ∷ [])
unfolding is_name_start is_name_byte is_digit hex_byte
lexes-byte a rest low stop h =
    let p : PieceData = printed_token kind.Number (48 ∷ 120 ∷ hex_byte a) in
    lexes-word 46 (98 ∷ 121 ∷ 116 ∷ 101 ∷ []) (32 ∷ 48 ∷ 120 ∷ (hex_byte a ++ rest)) (p ∷ []) refl refl refl
    (lexes-blank (48 ∷ 120 ∷ (hex_byte a ++ rest)) (p ∷ [])
    (lexes-hex (hex_byte a) rest [] (hex_byte-is a [] low refl) (hex_byte-some a []) stop h))

pub reads-byte : (a : ℕ) (rest : List ℕ) → a < 256 → IsTokenEnd rest → Lexes rest [] → Reads ((codes ".byte 0x" ++ hex_byte a) ++ rest) (line_data 15 (bytes (a ∷ []) None ∷ []))
reads-byte a rest low stop h =
    let p : PieceData = printed_token kind.Number (48 ∷ 120 ∷ hex_byte a) in
    reads-tokens ((codes ".byte 0x" ++ hex_byte a) ++ rest) (printed_token kind.Word (codes ".byte") ∷ p ∷ []) _ (lexes-byte a rest low stop h) (omega arith)
    (one_operand (codes ".byte") p (unfold kind_index in refl) (unfold kind_index in refl)
    ∙ ap (λ o. statement_line (codes ".byte") (o ∷ [])) (operand-one (48 ∷ 120 ∷ hex_byte a) ∙ ap (λ n. plain_operand (number_operand_value false n)) (byte_number a low))
    ∙ stated-byte (plain_operand (value_with_shape shape.Number [] false a) ∷ [])
    ∙ values_one 1 a (grind (arith, nat_tests))
    ∙ ap (λ bs. line_data 15 (bytes bs None ∷ [])) (byte_bytes a low))

-- ---- sections
section_one : (text : List ℕ) → named_line section (plain_operand (value_with_shape shape.Word text false 0) ∷ []) ≡ line_data 15 (section text ∷ [])
unfolding named_line only_operand_name is_unbracketed_name shape_index
section_one text = refl

lexes-section : (n : ℕ) (rest : List ℕ) → n < 2 ^ 64 → IsTokenEnd rest → Lexes rest [] → Lexes (codes ".section s" ++ (decimal n ++ rest)) (printed_token kind.Word (codes ".section") ∷ printed_token kind.Word (115 ∷ decimal n) ∷ [])
unfolding is_name_start is_name_byte is_digit
lexes-section n rest small stop h =
    let p : PieceData = printed_token kind.Word (115 ∷ decimal n) in
    lexes-word 46 (115 ∷ 101 ∷ 99 ∷ 116 ∷ 105 ∷ 111 ∷ 110 ∷ []) (32 ∷ 115 ∷ (decimal n ++ rest)) (p ∷ []) refl refl refl
    (lexes-blank (115 ∷ (decimal n ++ rest)) (p ∷ [])
    (lexes-word 115 (decimal n) rest [] refl (digits_are_names (decimal n) (decimal_is n small).digits) stop h))

pub reads-section : (n : ℕ) (rest : List ℕ) → n < 2 ^ 64 → IsTokenEnd rest → Lexes rest [] → Reads (codes ".section s" ++ (decimal n ++ rest)) (line_data 15 (section (115 ∷ decimal n) ∷ []))
reads-section n rest small stop h =
    let p : PieceData = printed_token kind.Word (115 ∷ decimal n) in
    reads-tokens (codes ".section s" ++ (decimal n ++ rest)) (printed_token kind.Word (codes ".section") ∷ p ∷ []) _ (lexes-section n rest small stop h) (omega arith)
    (one_operand (codes ".section") p (unfold kind_index in refl) (unfold kind_index in refl)
    ∙ ap (λ o. statement_line (codes ".section") (o ∷ [])) (operand-word (115 ∷ decimal n))
    ∙ stated-section (plain_operand (value_with_shape shape.Word (115 ∷ decimal n) false 0) ∷ [])
    ∙ section_one (115 ∷ decimal n))
