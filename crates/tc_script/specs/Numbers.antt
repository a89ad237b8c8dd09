-- Numbers as words: decimal, without leading zeros.
use Rattle.std.specs.Prelude.{ℕ, ◌^◌, ◌==◌, ◌&&◌, ◌||◌, not, nat_lt, Bool, false, if◌then◌else◌, List, length, slice_index, Option, Some, None}
use Rattle.std.specs.Char.{is_ascii_digit}
use Rattle.std.specs.List.{list_all}
use Rattle.std.specs.Str.Parse.{digits_value}

-- a script's word is digits, at least one; the first is 0 only if it is the only one
abbrev pub is_decimal : List ℕ → Bool
is_decimal word =
    if length word == 0 then false
    else if list_all is_ascii_digit word then (length word == 1 || not (slice_index word 0 == 48))
    else false

-- the number below 2^32 that a word spells
unfoldable pub script_number : List ℕ → Option ℕ
script_number word = if is_decimal word && nat_lt (digits_value 10 word) (2 ^ 32) then Some (digits_value 10 word) else None
