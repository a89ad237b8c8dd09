-- The kinds of relocations, and the forms of instructions whose constants they fill.
use Rattle.std.specs.Prelude.{◌==◌, ◌&&◌, ◌||◌, nat_le, ℕ, Bool, false}
use Rattle.tc_isa.specs.declared.table.Form.{Form}
use Rattle.tc_isa.specs.declared.table.Form.TheVariants.{Rlc, Bol, Brr, Brc, B}

-- the kind of relocations with half the displacement of a jump or a call, in 24 bits
abbrev pub rel24 : ℕ
rel24 = 1

-- the kind of relocations with bits 31:28 and 20:1 of an address, in 24 bits, for ja and calla
abbrev pub abs24 : ℕ
abs24 = 2

-- the kind of relocations with half the displacement of a branch, in 15 bits
abbrev pub rel15 : ℕ
rel15 = 3

-- the kind of relocations with the upper half of an address, plus 1 if the lower half is negative,
-- as the constant of an instruction
abbrev pub hi16 : ℕ
hi16 = 4

-- the kind of relocations with the lower half of an address, as the constant of an operation such
-- as addi
abbrev pub lo16 : ℕ
lo16 = 5

-- the kind of relocations with the lower half of an address, as the offset of a load, a store or
-- lea
abbrev pub offset16 : ℕ
offset16 = 6

-- the kind of relocations with an address as a word of data
abbrev pub word32 : ℕ
word32 = 7

-- the number is that of a kind of relocations: from 1 to 7
abbrev pub is_relocation_kind : ℕ → Bool
is_relocation_kind kind = nat_le rel24 kind && nat_le kind word32

-- a relocation of this kind fills the constant of an instruction of this form (manual, volume 2,
-- instruction formats)
unfoldable pub can_relocation_fill : Form → ℕ → Bool
can_relocation_fill B kind = kind == rel24 || kind == abs24
can_relocation_fill Brr kind = kind == rel15
can_relocation_fill Brc kind = kind == rel15
can_relocation_fill Rlc kind = kind == hi16 || kind == lo16
can_relocation_fill Bol kind = kind == offset16
can_relocation_fill form kind = false
