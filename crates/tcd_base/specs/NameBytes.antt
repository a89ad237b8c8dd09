-- The bytes of names.
use Rattle.std.specs.Prelude.{ℕ, Bool, true, List, [], ◌∷◌, ◌+◌, not, if◌then◌else◌, nat_le, ◌==◌, ◌&&◌, ◌||◌}

-- a name of a symbol, section or label can begin with this byte: a letter, `_`, `.` or `$`
unfoldable pub is_name_start : ℕ → Bool
is_name_start c = (nat_le 65 c && nat_le c 90) || (nat_le 97 c && nat_le c 122) || c == 95 || c == 46 || c == 36

-- a name can have this byte after its first: a letter, `_`, `.`, `$` or a digit
unfoldable pub is_name_byte : ℕ → Bool
is_name_byte c = is_name_start c || (nat_le 48 c && nat_le c 57)

-- the bits of the table say for each byte from c on whether a name can have it after its first byte
abbrev pub is_name_byte_table_from : ℕ → List Bool → Bool
is_name_byte_table_from c [] = true
is_name_byte_table_from c (b ∷ bs) = (if is_name_byte c then b else not b) && is_name_byte_table_from (c + 1) bs
