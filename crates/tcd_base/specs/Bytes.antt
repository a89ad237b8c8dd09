-- Numbers in lists of bytes, little-endian as in the ELF specification (ELFDATA2LSB).
use Rattle.std.specs.Prelude.{◌+◌, ◌*◌, ◌/◌, ◌%◌, ℕ, List, ◌∷◌, slice_index, ◌^◌, ◌<◌, []}

-- a little-endian halfword in a list of bytes, as a number: the two bytes from a place on
abbrev pub half_in_bytes : List ℕ → ℕ → ℕ
half_in_bytes bytes place = slice_index bytes place + slice_index bytes (place + 1) * 256

-- a little-endian word in a list of bytes, as a number: the four bytes from a place on
abbrev pub word_in_bytes : List ℕ → ℕ → ℕ
word_in_bytes bytes place = slice_index bytes place + slice_index bytes (place + 1) * 256 + slice_index bytes (place + 2) * 65536 + slice_index bytes (place + 3) * 16777216

-- the two low bytes of a number, the lowest first
abbrev pub bytes_of_half : ℕ → List ℕ
bytes_of_half x = x % 256 ∷ x / 256 % 256 ∷ []

-- the four low bytes of a number, the lowest first
abbrev pub bytes_of_word : ℕ → List ℕ
bytes_of_word x = x % 256 ∷ x / 256 % 256 ∷ x / 65536 % 256 ∷ x / 16777216 % 256 ∷ []

-- the two bytes of a number below 2^16, the lowest first; the second isn't reduced modulo 256
abbrev pub two_bytes : ℕ → List ℕ
two_bytes w = w % 256 ∷ w / 256 ∷ []

-- the four bytes of a word of 32 bits, the lowest first; the last isn't reduced modulo 256
abbrev pub four_bytes : ℕ → List ℕ
four_bytes w = w % 256 ∷ w / 2 ^ 8 % 256 ∷ w / 2 ^ 16 % 256 ∷ w / 2 ^ 24 ∷ []

-- bytes as a number, the first byte lowest
abbrev pub number_from_bytes : List ℕ → ℕ
number_from_bytes [] = 0
number_from_bytes (b ∷ bs) = b + 256 * number_from_bytes bs

-- a word of 32 bits
abbrev pub IsWord : ℕ → Type 0
IsWord w = w < 2 ^ 32
