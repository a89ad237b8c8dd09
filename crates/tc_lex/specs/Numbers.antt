-- The numbers that tokens spell.
use Rattle.std.specs.Prelude.{◌≡◌, ℕ, ◌+◌, ◌-◌, ◌*◌, ◌^◌, nat_lt, nat_le, if◌then◌else◌, List, drop, Option, Some, None, fold, option_and_then}
use Rattle.tc_lex.specs.Bytes.{is_digit}
use Rattle.tc_lex.specs.Cut.{has_hex_prefix}

-- the value of a digit of base 10 or 16
unfoldable pub token_digit_value : ℕ → ℕ
token_digit_value c = if is_digit c then c - 48 else (c - 55) - (if nat_le 97 c then 32 else 0)

-- the number if it is below 2^128; no field is as wide
abbrev pub below_2_128 : ℕ → Option ℕ
below_2_128 n = if nat_lt n (2 ^ 128) then Some n else None

-- the number of a token with one more digit, if it is below 2^128
unfoldable pub append_digit : ℕ → Option ℕ → ℕ → Option ℕ
append_digit base o c = option_and_then (λ n. below_2_128 (n * base + token_digit_value c)) o

-- the number that these digits spell, if it is below 2^128
abbrev pub number_by_digits : ℕ → List ℕ → Option ℕ
number_by_digits base text = fold (append_digit base) (Some 0) text

-- the number of a token: hexadecimal after `0x`, else decimal
unfoldable pub token_number : List ℕ → Option ℕ
token_number text = if has_hex_prefix text then number_by_digits 16 (drop 2 text) else number_by_digits 10 text

-- the number that these digits spell, however large
abbrev pub exact_number_by_digits : ℕ → List ℕ → ℕ
exact_number_by_digits base text = fold (λ n c. n * base + token_digit_value c) 0 text

-- the number of a token, however large
unfoldable pub exact_token_number : List ℕ → ℕ
exact_token_number text = if has_hex_prefix text then exact_number_by_digits 16 (drop 2 text) else exact_number_by_digits 10 text

-- a token's number is what its digits spell, if that is below 2^128
abbrev pub TokenNumbersAreExact : Type 0
TokenNumbersAreExact = (text : List ℕ) → token_number text ≡ below_2_128 (exact_token_number text)
