-- The address that the instruction reaches by a written field.
use Rattle.std.specs.Prelude.{◌+◌, ◌*◌, ◌/◌, ◌%◌, ◌^◌, ◌==◌, ◌||◌, if◌then◌else◌, ℕ}
use Rattle.tc_isa.specs.Relocations.{rel24, abs24, rel15, hi16, lo16, offset16}
use Rattle.tcd_base.specs.BitFields.{sext_of}
use Rattle.tc_reloc.specs.Fields.{reloc_field_number}

-- the number that the field of a relocation of this kind holds, in the word of its instruction
unfoldable pub number_in_reloc_field : ℕ → ℕ → ℕ
number_in_reloc_field kind w =
    if kind == rel24 || kind == abs24 then w / 2 ^ 16 + w / 2 ^ 8 % 2 ^ 8 * 2 ^ 16
    else if kind == rel15 then w / 2 ^ 16 % 2 ^ 15
    else if kind == hi16 || kind == lo16 then w / 2 ^ 12 % 2 ^ 16
    else if kind == offset16 then w / 2 ^ 16 % 2 ^ 6 + w / 2 ^ 28 * 2 ^ 6 + w / 2 ^ 22 % 2 ^ 6 * 2 ^ 10
    else w

-- the address that the fields of two instructions hold together: the sum of an upper half and a
-- lower half, which has a sign
abbrev pub reloc_address_from_halves : ℕ → ℕ → ℕ
reloc_address_from_halves upper lower = (upper * 2 ^ 16 + sext_of lower 16) % 2 ^ 32

-- The address that an instruction at the place reaches by this number in its field. Kind 4 also
-- uses the lower half of the value, in a later instruction. Kinds 5 and 6 also use the upper half,
-- in an earlier one. Source: manual, volume 2, CALL and J, CALLA and JA, JEQ and its like, MOVH.A
-- with LEA or ADDI.
unfoldable pub address_reached_by_reloc : ℕ → ℕ → ℕ → ℕ → ℕ
address_reached_by_reloc kind place value k =
    if kind == rel24 then (place + sext_of k 24 * 2) % 2 ^ 32
    else if kind == abs24 then k / 2 ^ 20 * 2 ^ 28 + k % 2 ^ 20 * 2
    else if kind == rel15 then (place + sext_of k 15 * 2) % 2 ^ 32
    else if kind == hi16 then reloc_address_from_halves k (reloc_field_number lo16 place value)
    else if kind == lo16 || kind == offset16 then reloc_address_from_halves (reloc_field_number hi16 place value) k
    else k
