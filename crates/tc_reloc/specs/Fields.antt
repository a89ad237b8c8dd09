-- The number that a relocation writes, and the bits of the little-endian word that hold it.
-- The fields are those of the TriCore 1 Architecture Manual V1.3, volume 2, instruction formats.
use Rattle.std.specs.Prelude.{◌+◌, ◌*◌, ◌/◌, ◌%◌, ◌^◌, ◌==◌, ◌||◌, if◌then◌else◌, ℕ, List, ◌-◌}
use Rattle.tc_isa.specs.Relocations.{rel24, abs24, rel15, hi16, lo16, offset16, word32}
use Rattle.tcd_base.specs.Bytes.{word_in_bytes, bytes_of_word}

-- the distance from a relocation's place to its value, modulo 2^32, which the fields of jumps,
-- calls and branches hold in halfwords
abbrev pub reloc_distance : ℕ → ℕ → ℕ
reloc_distance place value = (value + 2 ^ 32 - place) % 2 ^ 32

-- the number that a relocation of this kind writes into its field, for a value and the field's own
-- address
unfoldable pub reloc_field_number : ℕ → ℕ → ℕ → ℕ
reloc_field_number kind place value =
    -- the displacement in halfwords, of 24 bits
    if kind == rel24 then reloc_distance place value / 2 % 2 ^ 24
    -- bits 31:28 and 20:1 of the address
    else if kind == abs24 then value / 2 ^ 28 * 2 ^ 20 + value / 2 % 2 ^ 20
    -- the displacement in halfwords, of 15 bits
    else if kind == rel15 then reloc_distance place value / 2 % 2 ^ 15
    -- the upper half, plus one if the lower half is negative as a signed number
    else if kind == hi16 then (value + 0x8000) / 2 ^ 16 % 2 ^ 16
    -- the lower half
    else if kind == lo16 || kind == offset16 then value % 2 ^ 16
    -- the whole word
    else value

-- the field of a relocation of this kind can hold exactly the numbers below this
unfoldable pub reloc_field_bound : ℕ → ℕ
reloc_field_bound kind =
    if kind == rel24 || kind == abs24 then 2 ^ 24
    else if kind == rel15 then 2 ^ 15
    else if kind == word32 then 2 ^ 32
    else 2 ^ 16

-- the word with a number in the field of a relocation of this kind, and zeros elsewhere
unfoldable pub reloc_field_bits : ℕ → ℕ → ℕ
reloc_field_bits kind k =
    -- form B: k[15:0] in 31:16, k[23:16] in 15:8
    if kind == rel24 || kind == abs24 then k / 2 ^ 16 * 2 ^ 8 + k % 2 ^ 16 * 2 ^ 16
    -- forms BRR and BRC: k in 30:16
    else if kind == rel15 then k * 2 ^ 16
    -- form RLC: k in 27:12
    else if kind == hi16 || kind == lo16 then k * 2 ^ 12
    -- form BOL: k[9:6] in 31:28, k[15:10] in 27:22, k[5:0] in 21:16
    else if kind == offset16 then k % 2 ^ 6 * 2 ^ 16 + k / 2 ^ 10 * 2 ^ 22 + k / 2 ^ 6 % 2 ^ 4 * 2 ^ 28
    -- four bytes
    else k

-- the word with zeros in the field that a relocation of this kind fills
unfoldable pub bits_outside_reloc_field : ℕ → ℕ → ℕ
bits_outside_reloc_field kind w =
    if kind == rel24 || kind == abs24 then w % 2 ^ 8
    else if kind == rel15 then w % 2 ^ 16 + w / 2 ^ 31 * 2 ^ 31
    else if kind == hi16 || kind == lo16 then w % 2 ^ 12 + w / 2 ^ 28 * 2 ^ 28
    else if kind == offset16 then w % 2 ^ 16
    else 0

-- four bytes with a number in the field of this kind; all other bits keep their values
abbrev pub with_reloc_field : ℕ → List ℕ → ℕ → List ℕ
with_reloc_field kind field k = bytes_of_word (bits_outside_reloc_field kind (word_in_bytes field 0) + reloc_field_bits kind k)
