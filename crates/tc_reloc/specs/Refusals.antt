-- The reasons why a value can't be written into a field.
use Rattle.std.specs.Prelude.{◌-◌, ◌/◌, ◌%◌, ◌^◌, ◌==◌, ◌&&◌, ◌||◌, not, nat_lt, nat_le, if◌then◌else◌, ℕ, Bool, Option, Some, None}
use Rattle.tc_isa.specs.Relocations.{rel24, rel15, abs24}
use Rattle.tc_reloc.specs.declared.refusals.RelocErr.{RelocErr}
use Rattle.tc_reloc.specs.declared.refusals.RelocErr.TheVariants.{Odd, FarOff, Segment}
use Rattle.tc_reloc.specs.Fields.{reloc_distance}

-- a distance in bytes is in reach: its half, as a signed word, is a signed number of this many bits
abbrev pub is_reloc_in_reach : ℕ → ℕ → Bool
is_reloc_in_reach bits d = nat_lt d (2 ^ bits) || nat_le (2 ^ 32 - 2 ^ bits) d

-- the target of a relocation is odd: its distance in kinds 1 and 3, its address in kind 2
abbrev pub is_reloc_target_odd : ℕ → ℕ → ℕ → Bool
is_reloc_target_odd kind place value = ((kind == rel24 || kind == rel15) && reloc_distance place value % 2 == 1) || (kind == abs24 && value % 2 == 1)

-- the target of a relocation is out of reach: a displacement has 24 bits in kind 1, 15 bits in kind
-- 3
abbrev pub is_reloc_target_far : ℕ → ℕ → ℕ → Bool
is_reloc_target_far kind place value = (kind == rel24 && not (is_reloc_in_reach 24 (reloc_distance place value))) || (kind == rel15 && not (is_reloc_in_reach 15 (reloc_distance place value)))

-- the target of an absolute jump isn't in the first 2^21 bytes of its segment of 2^28: bits 27:21
-- aren't zero
abbrev pub is_reloc_target_outside : ℕ → ℕ → Bool
is_reloc_target_outside kind value = kind == abs24 && nat_lt 0 (value / 2 ^ 21 % 2 ^ 7)

-- the first reason why a value can't be written into the field of a relocation of this kind, if
-- there is one
unfoldable pub reloc_value_refusal : ℕ → ℕ → ℕ → Option RelocErr
reloc_value_refusal kind place value =
    if is_reloc_target_odd kind place value then Some Odd
    else if is_reloc_target_far kind place value then Some FarOff
    else if is_reloc_target_outside kind value then Some Segment
    else None
