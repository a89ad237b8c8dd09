-- Addresses in hex digits are read back.
use Rattle.std.proofs.Common.{◌≡◌, ◌<◌, ◌+◌, ◌*◌, ◌/◌, ◌%◌, ◌^◌, ℕ, true, cond, List, [], ◌∷◌, ◌++◌, Some, ap, ◌∙◌, arith}
use Rattle.std.specs.Prelude.{fold}
use Rattle.std.proofs.lemmas.Bool.Decides.{nat_tests}
use Rattle.tc_lex.specs.Bytes.{is_digit, is_hex_digit}
use Rattle.tc_lex.specs.Cut.{has_hex_prefix}
use Rattle.tc_lex.specs.Numbers.{token_digit_value, append_digit, token_number, below_2_128}
use Rattle.tcd_text.specs.HexNumbers.{hex_digit, hex_byte, hex_word}
use Rattle.tc_disasm.proofs.Decimals.{bounded-small}

pub is_hex-digit : (n : ℕ) → n < 16 → is_hex_digit (hex_digit n) ≡ true
unfolding is_hex_digit is_digit hex_digit
is_hex-digit n h = grind (arith, nat_tests)

digit_of-hex : (n : ℕ) → n < 16 → token_digit_value (hex_digit n) ≡ n
unfolding token_digit_value is_digit hex_digit
digit_of-hex n h = grind (arith, nat_tests)

-- a further digit
added-hex : (m d : ℕ) → d < 16 → m < 2 ^ 32 → append_digit 16 (Some m) (hex_digit d) ≡ Some (m * 16 + d)
unfolding append_digit
added-hex m d digit h = ap (λ x. below_2_128 (m * 16 + x)) (digit_of-hex d digit) ∙ bounded-small (m * 16 + d) (omega arith)

-- a further byte
pub added-byte : (m b : ℕ) (rest : List ℕ) → b < 256 → m < 2 ^ 24 → fold (append_digit 16) (Some m) (hex_byte b ++ rest) ≡ fold (append_digit 16) (Some (m * 256 + b)) rest
unfolding hex_byte
added-byte m b rest h small =
    let high : b / 16 < 16 = omega arith in
    let low : b % 16 < 16 = omega arith in
    let more : m * 16 + b / 16 < 2 ^ 32 = omega arith in
    let is : (m * 16 + b / 16) * 16 + b % 16 ≡ m * 256 + b = omega arith in
    ap (λ o. fold (append_digit 16) (append_digit 16 o (hex_digit (b % 16))) rest) (added-hex m (b / 16) high (omega arith))
    ∙ ap (λ o. fold (append_digit 16) o rest) (added-hex (m * 16 + b / 16) (b % 16) low more)
    ∙ ap (λ n. fold (append_digit 16) (Some n) rest) is

pub last-byte : (m b : ℕ) → b < 256 → m < 2 ^ 24 → fold (append_digit 16) (Some m) (hex_byte b) ≡ Some (m * 256 + b)
unfolding hex_byte
last-byte m b h small = added-byte m b [] h small

front_hex : (x : ℕ) → x < 2 ^ 32 → has_hex_prefix (48 ∷ 120 ∷ hex_word x) ≡ true
unfolding has_hex_prefix hex_word hex_byte
front_hex x h = is_hex-digit (x / 2 ^ 24 / 16) (omega arith)

pub number_of-hex : (x : ℕ) → x < 2 ^ 32 → token_number (48 ∷ 120 ∷ hex_word x) ≡ Some x
unfolding token_number hex_word
number_of-hex x h =
    let a = x / 2 ^ 24 in
    let b = x / 2 ^ 16 % 256 in
    let c = x / 2 ^ 8 % 256 in
    let d = x % 256 in
    let one : 0 * 256 + a ≡ a = omega arith in
    let two : a * 256 + b ≡ x / 2 ^ 16 = omega arith in
    let three : x / 2 ^ 16 * 256 + c ≡ x / 2 ^ 8 = omega arith in
    let four : x / 2 ^ 8 * 256 + d ≡ x = omega arith in
    ap (λ t. cond t (fold (append_digit 16) (Some 0) (hex_word x)) (fold (append_digit 10) (Some 0) (48 ∷ 120 ∷ hex_word x))) (front_hex x h)
    ∙ added-byte 0 a (hex_byte b ++ (hex_byte c ++ hex_byte d)) (omega arith) (omega arith)
    ∙ ap (λ n. fold (append_digit 16) (Some n) (hex_byte b ++ (hex_byte c ++ hex_byte d))) one
    ∙ added-byte a b (hex_byte c ++ hex_byte d) (omega arith) (omega arith)
    ∙ ap (λ n. fold (append_digit 16) (Some n) (hex_byte c ++ hex_byte d)) two
    ∙ added-byte (x / 2 ^ 16) c (hex_byte d) (omega arith) (omega arith)
    ∙ ap (λ n. fold (append_digit 16) (Some n) (hex_byte d)) three
    ∙ last-byte (x / 2 ^ 8) d (omega arith) (omega arith)
    ∙ ap (λ n. Some n) four
