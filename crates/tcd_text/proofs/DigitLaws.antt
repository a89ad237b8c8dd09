-- Hex digits are ASCII.
use Rattle.std.proofs.Common.{◌<◌, ◌/◌, ◌%◌, ◌^◌, ℕ, List, [], ◌∷◌, ◌++◌, arith}
use Rattle.std.specs.Str.{IsAscii}
use Rattle.std.proofs.lemmas.Bool.Decides.{nat_tests}
use Rattle.std.proofs.lemmas.Str.Ascii.{IsAscii-nil, IsAscii-cons}
use Rattle.tcd_text.specs.HexNumbers.{hex_digit, hex_byte, hex_word}

digit_below : (n : ℕ) → n < 16 → hex_digit n < 128
unfolding hex_digit
digit_below n h = grind (arith, nat_tests)

-- two or eight hex digits before an ASCII text
pub hex_byte-front : (b : ℕ) (rest : List ℕ) → b < 256 → IsAscii rest → IsAscii (hex_byte b ++ rest)
unfolding hex_byte
hex_byte-front b rest h is =
    IsAscii-cons (hex_digit (b / 16)) (hex_digit (b % 16) ∷ rest) (digit_below (b / 16) (omega arith))
    (IsAscii-cons (hex_digit (b % 16)) rest (digit_below (b % 16) (omega arith)) is)

pub hex_byte-ascii : (b : ℕ) → b < 256 → IsAscii (hex_byte b)
unfolding hex_byte
hex_byte-ascii b h = hex_byte-front b [] h IsAscii-nil

pub hex_word-front : (x : ℕ) (rest : List ℕ) → x < 2 ^ 32 → IsAscii rest → IsAscii (hex_word x ++ rest)
unfolding hex_byte hex_word
hex_word-front x rest h is =
    hex_byte-front (x / 2 ^ 24) (hex_byte (x / 2 ^ 16 % 256) ++ (hex_byte (x / 2 ^ 8 % 256) ++ (hex_byte (x % 256) ++ rest))) (omega arith)
    (hex_byte-front (x / 2 ^ 16 % 256) (hex_byte (x / 2 ^ 8 % 256) ++ (hex_byte (x % 256) ++ rest)) (omega arith)
    (hex_byte-front (x / 2 ^ 8 % 256) (hex_byte (x % 256) ++ rest) (omega arith)
    (hex_byte-front (x % 256) rest (omega arith) is)))

pub hex_word-ascii : (x : ℕ) → x < 2 ^ 32 → IsAscii (hex_word x)
unfolding hex_byte hex_word
hex_word-ascii x h = hex_word-front x [] h IsAscii-nil
