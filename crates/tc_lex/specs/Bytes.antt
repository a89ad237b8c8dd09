-- Tests of single bytes: digits and hex digits.
use Rattle.std.specs.Prelude.{ℕ, Bool, nat_le, ◌&&◌, ◌||◌, ◌==◌}

-- a byte is a decimal digit: 0 to 9
unfoldable pub is_digit : ℕ → Bool
is_digit c = nat_le 48 c && nat_le c 57

-- a byte of a token that is a hex digit: 0 to 9, A to F or a to f
unfoldable pub is_hex_digit : ℕ → Bool
is_hex_digit c = is_digit c || (nat_le 65 c && nat_le c 70) || (nat_le 97 c && nat_le c 102)

-- a byte is a blank or a tab, which only separate the tokens of a line
abbrev pub is_blank : ℕ → Bool
is_blank c = c == 32 || c == 9
