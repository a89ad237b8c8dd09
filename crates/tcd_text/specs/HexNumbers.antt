-- Hex digits, and numbers of eight upper-case ones.
use Rattle.std.specs.Prelude.{◌==◌, ◌&&◌, ℕ, List, length, Option, nat_lt, Bool, ◌+◌, ◌/◌, ◌%◌, ◌^◌, if◌then◌else◌, ◌∷◌, ◌++◌, []}
use Rattle.std.specs.Bool.{then_some}
use Rattle.std.specs.List.{list_all}
use Rattle.std.specs.Str.Parse.{digits_value}
use Rattle.std.specs.Char.{digit_value}

-- a byte is an upper-case hex digit in ASCII: 0 to 9, A to F
abbrev pub is_upper_hex : ℕ → Bool
is_upper_hex c = nat_lt (digit_value c) 16 && nat_lt c 97

-- the number that eight upper-case hex digits spell, the highest first; None for any other bytes
abbrev pub hex_number_of : List ℕ → Option ℕ
hex_number_of ds = then_some (length ds == 8 && list_all is_upper_hex ds) (digits_value 16 ds)

-- a hex digit in ASCII, in upper case
unfoldable pub hex_digit : ℕ → ℕ
hex_digit n = if nat_lt n 10 then 48 + n else 55 + n

-- the two digits of a byte, in upper-case hex, the higher one first
unfoldable pub hex_byte : ℕ → List ℕ
hex_byte b = hex_digit (b / 16) ∷ hex_digit (b % 16) ∷ []

-- a word as eight upper-case hex digits, two for each byte, the highest byte first
unfoldable pub hex_word : ℕ → List ℕ
hex_word x = hex_byte (x / 2 ^ 24) ++ (hex_byte (x / 2 ^ 16 % 256) ++ (hex_byte (x / 2 ^ 8 % 256) ++ hex_byte (x % 256)))
