-- Words, numbers and signs at the front of a text are its first tokens.
use Rattle.std.proofs.Common.{◌≡◌, ◌<◌, ◌+◌, ◌/◌, ◌%◌, ◌^◌, ◌&&◌, ◌||◌, ℕ, Bool, true, false, cond, List, [], ◌∷◌, ◌++◌, length, refl, ap, ◌∙◌, arith}
use Rattle.std.proofs.lemmas.Bool.{and_parts}
use Rattle.std.specs.Prelude.{nat_lt}
use Rattle.std.specs.List.{list_all, prefix_len}
use Rattle.std.specs.Fmt.{decimal}
use Rattle.std.proofs.lemmas.Bool.Decides.{nat_tests}
use Rattle.tc_lex.specs.declared.kinds.TokenKind.TheVariants as kind
use Rattle.tc_lex.specs.declared.kinds.Front.TheVariants as front
use Rattle.tcd_base.specs.NameBytes.{is_name_byte, is_name_start}
use Rattle.tc_lex.specs.Bytes.{is_digit, is_hex_digit}
use Rattle.tc_lex.specs.Cut.{first_token_of, first_token_by_byte, number_len, has_hex_prefix}
use Rattle.tc_lex.specs.Pieces.{PieceData}
use Rattle.tcd_text.specs.HexNumbers.{hex_byte, hex_word}
use Rattle.tc_disasm.specs.Texts.{register_text}
use Rattle.tc_disasm.specs.Tokens.{printed_token}
use Rattle.tc_disasm.specs.Lexed.{IsTokenEnd}
use Rattle.tc_disasm.proofs.Decimals.{decimal_is}
use Rattle.tc_disasm.proofs.Hexes.{is_hex-digit}
use Rattle.tc_disasm.proofs.Lexing.{front_of-word, front_of-digits, prefix_len-front}
use Rattle.tc_disasm.proofs.LineTokens.{Lexes, is_plain, lexes-token}

-- ---- bytes within one line
list_all-from : (p q : ℕ → Bool) → ((c : ℕ) → p c ≡ true → q c ≡ true) → (cs : List ℕ) → list_all p cs ≡ true → list_all q cs ≡ true
list_all-from p q h [] e = refl
list_all-from p q h (c ∷ cs) e =
    let two = and_parts (p c) (list_all p cs) e in
    rw (h c two.0) (list_all-from p q h cs two.1)

name_is_plain : (c : ℕ) → is_name_byte c ≡ true → is_plain c ≡ true
unfolding is_name_byte is_name_start is_digit
name_is_plain c e = grind (arith, nat_tests)

digit_is_plain : (c : ℕ) → is_digit c ≡ true → is_plain c ≡ true
unfolding is_digit
digit_is_plain c e = grind (arith, nat_tests)

hex_is_plain : (c : ℕ) → is_hex_digit c ≡ true → is_plain c ≡ true
unfolding is_hex_digit is_digit
hex_is_plain c e = grind (arith, nat_tests)

digit_is_named : (c : ℕ) → is_digit c ≡ true → is_name_byte c ≡ true
unfolding is_name_byte is_digit
digit_is_named c e = ap (λ (b : Bool). is_name_start c || b) e ∙ by_first (is_name_start c)
  where
    by_first : (b : Bool) → (b || true) ≡ true
    by_first true = refl
    by_first false = refl

pub digits_are_names : (ds : List ℕ) → list_all is_digit ds ≡ true → list_all is_name_byte ds ≡ true
digits_are_names ds e = list_all-from is_digit is_name_byte digit_is_named ds e

-- ---- words
pub lexes-word : (c : ℕ) (cs rest : List ℕ) (ps : List PieceData) → is_name_start c ≡ true → list_all is_name_byte (c ∷ cs) ≡ true → IsTokenEnd rest → Lexes rest ps
    → Lexes ((c ∷ cs) ++ rest) (printed_token kind.Word (c ∷ cs) ∷ ps)
lexes-word c cs rest ps first all stop h =
    lexes-token kind.Word c cs rest ps (front_of-word c cs rest first all stop) (list_all-from is_name_byte is_plain name_is_plain (c ∷ cs) all) h

pub lexes-register : (bank : Bool) (n : ℕ) (rest : List ℕ) (ps : List PieceData) → n < 2 ^ 64 → IsTokenEnd rest → Lexes rest ps → Lexes (register_text bank n ++ rest) (printed_token kind.Word (register_text bank n) ∷ ps)
unfolding register_text is_name_byte is_name_start is_digit
lexes-register true n rest ps small stop h = lexes-word 97 (decimal n) rest ps refl (digits_are_names (decimal n) (decimal_is n small).digits) stop h
lexes-register false n rest ps small stop h = lexes-word 100 (decimal n) rest ps refl (digits_are_names (decimal n) (decimal_is n small).digits) stop h

-- ---- numbers
lexes-digits : (ds rest : List ℕ) (ps : List PieceData) → list_all is_digit ds ≡ true → 0 < length ds → IsTokenEnd rest → Lexes rest ps → Lexes (ds ++ rest) (printed_token kind.Number ds ∷ ps)
lexes-digits [] rest ps digits some stop h = absurd (omega arith)
lexes-digits (c ∷ cs) rest ps digits some stop h =
    lexes-token kind.Number c cs rest ps (front_of-digits c cs rest digits stop) (list_all-from is_digit is_plain digit_is_plain (c ∷ cs) digits) h

pub lexes-decimal : (n : ℕ) (rest : List ℕ) (ps : List PieceData) → n < 2 ^ 64 → IsTokenEnd rest → Lexes rest ps → Lexes (decimal n ++ rest) (printed_token kind.Number (decimal n) ∷ ps)
lexes-decimal n rest ps small stop h = let d = decimal_is n small in lexes-digits (decimal n) rest ps d.digits d.some stop h

hex_is_named : (c : ℕ) → is_name_byte c ≡ false → is_hex_digit c ≡ false
unfolding is_name_byte is_name_start is_hex_digit is_digit
hex_is_named c e = grind (arith, nat_tests)

hex_stops : (rest : List ℕ) → IsTokenEnd rest → prefix_len is_hex_digit rest ≡ 0
hex_stops [] h = refl
hex_stops (c ∷ cs) h = rw (hex_is_named c h) refl

front_of-hex : (hs rest : List ℕ) → list_all is_hex_digit hs ≡ true → 0 < length hs → IsTokenEnd rest → first_token_of (48 ∷ 120 ∷ (hs ++ rest)) ≡ front.Token kind.Number (length (48 ∷ 120 ∷ hs))
unfolding first_token_by_byte is_name_start is_digit number_len has_hex_prefix
front_of-hex [] rest hex some stop = absurd (omega arith)
front_of-hex (x ∷ xs) rest hex some stop =
    let long : nat_lt 2 (length (48 ∷ 120 ∷ x ∷ (xs ++ rest))) ≡ true = grind (arith, nat_tests) in
    let run : prefix_len is_hex_digit ((x ∷ xs) ++ rest) ≡ length (x ∷ xs) = prefix_len-front is_hex_digit (x ∷ xs) rest hex (hex_stops rest stop) in
    let first : is_hex_digit x ≡ true = (and_parts (is_hex_digit x) (list_all is_hex_digit xs) hex).0 in
    ap (λ b. front.Token kind.Number (cond (b && true && true && is_hex_digit x) (2 + prefix_len is_hex_digit ((x ∷ xs) ++ rest)) (prefix_len is_digit (48 ∷ 120 ∷ ((x ∷ xs) ++ rest))))) long
    ∙ ap (λ b. front.Token kind.Number (cond b (2 + prefix_len is_hex_digit ((x ∷ xs) ++ rest)) (prefix_len is_digit (48 ∷ 120 ∷ ((x ∷ xs) ++ rest))))) first
    ∙ ap (λ n. front.Token kind.Number (2 + n)) run
    ∙ ap (λ n. front.Token kind.Number n) (omega arith)

pub lexes-hex : (hs rest : List ℕ) (ps : List PieceData) → list_all is_hex_digit hs ≡ true → 0 < length hs → IsTokenEnd rest → Lexes rest ps → Lexes (48 ∷ 120 ∷ (hs ++ rest)) (printed_token kind.Number (48 ∷ 120 ∷ hs) ∷ ps)
lexes-hex hs rest ps hex some stop h =
    lexes-token kind.Number 48 (120 ∷ hs) rest ps (front_of-hex hs rest hex some stop) (list_all-from is_hex_digit is_plain hex_is_plain hs hex) h

-- bytes and words in hex digits
pub hex_byte-is : (b : ℕ) (rest : List ℕ) → b < 256 → list_all is_hex_digit rest ≡ true → list_all is_hex_digit (hex_byte b ++ rest) ≡ true
unfolding hex_byte
hex_byte-is b rest small e = rw (is_hex-digit (b / 16) (omega arith), is_hex-digit (b % 16) (omega arith)) e

pub hex_word-is : (x : ℕ) → x < 2 ^ 32 → list_all is_hex_digit (hex_word x) ≡ true
unfolding hex_word hex_byte
hex_word-is x small =
    rw (
      is_hex-digit (x / 2 ^ 24 / 16) (omega arith),
      is_hex-digit (x / 2 ^ 24 % 16) (omega arith),
      is_hex-digit (x / 2 ^ 16 % 256 / 16) (omega arith),
      is_hex-digit (x / 2 ^ 16 % 256 % 16) (omega arith),
      is_hex-digit (x / 2 ^ 8 % 256 / 16) (omega arith),
      is_hex-digit (x / 2 ^ 8 % 256 % 16) (omega arith),
      is_hex-digit (x % 256 / 16) (omega arith),
      is_hex-digit (x % 256 % 16) (omega arith),
    ) refl

pub hex_byte-some : (b : ℕ) (rest : List ℕ) → 0 < length (hex_byte b ++ rest)
unfolding hex_byte
hex_byte-some b rest = omega arith

pub hex_word-some : (x : ℕ) → 0 < length (hex_word x)
unfolding hex_word hex_byte
hex_word-some x = omega arith

-- ---- signs
pub lexes-comma : (rest : List ℕ) (ps : List PieceData) → Lexes rest ps → Lexes (44 ∷ rest) (printed_token kind.Comma (44 ∷ []) ∷ ps)
unfolding first_token_by_byte
lexes-comma rest ps h = lexes-token kind.Comma 44 [] rest ps refl refl h

pub lexes-open : (rest : List ℕ) (ps : List PieceData) → Lexes rest ps → Lexes (91 ∷ rest) (printed_token kind.Open (91 ∷ []) ∷ ps)
unfolding first_token_by_byte
lexes-open rest ps h = lexes-token kind.Open 91 [] rest ps refl refl h

pub lexes-close : (rest : List ℕ) (ps : List PieceData) → Lexes rest ps → Lexes (93 ∷ rest) (printed_token kind.Close (93 ∷ []) ∷ ps)
unfolding first_token_by_byte
lexes-close rest ps h = lexes-token kind.Close 93 [] rest ps refl refl h

pub lexes-plus : (rest : List ℕ) (ps : List PieceData) → Lexes rest ps → Lexes (43 ∷ rest) (printed_token kind.Plus (43 ∷ []) ∷ ps)
unfolding first_token_by_byte
lexes-plus rest ps h = lexes-token kind.Plus 43 [] rest ps refl refl h

pub lexes-minus : (rest : List ℕ) (ps : List PieceData) → Lexes rest ps → Lexes (45 ∷ rest) (printed_token kind.Minus (45 ∷ []) ∷ ps)
unfolding first_token_by_byte
lexes-minus rest ps h = lexes-token kind.Minus 45 [] rest ps refl refl h
