-- What an instruction does, in terms of its fields.
use Rattle.std.specs.Prelude.{◌%◌, ◌^◌, ℕ, ◌+◌, ◌*◌, ◌/◌}
use Rattle.tc_isa.specs.declared.fields.Fields.{Fields}
use Rattle.tc_isa.specs.declared.meaning.RegField.{RegField}
use Rattle.tc_isa.specs.declared.meaning.RegField.TheVariants.{Dc, Ds1, Ds2, D15, Ac, As1, As2, A10}
use Rattle.tc_isa.specs.declared.meaning.Immediate.{Immediate}
use Rattle.tc_isa.specs.declared.meaning.Immediate.TheVariants.{Zero, Signed4, Signed9, Signed10, Signed16, Unsigned, High, Address, SignedS2, UnsignedS2}
use Rattle.tc_isa.specs.declared.meaning.Operand.{Operand}
use Rattle.tc_isa.specs.declared.meaning.Operand.TheVariants.{At, Of}
use Rattle.tc_isa.specs.declared.meaning.Displacement.{Displacement}
use Rattle.tc_isa.specs.declared.meaning.Displacement.TheVariants.{Ahead8, Ahead15, Ahead24, AheadOnly}
use Rattle.tc_isa.specs.declared.meaning.Destination.{Destination}
use Rattle.tc_isa.specs.declared.meaning.Destination.TheVariants.{By, Code, In}
use Rattle.tc_isa.specs.declared.meaning.Meaning.{Meaning}
use Rattle.tc_isa.specs.declared.meaning.Meaning.TheVariants.{Computes, Scales, Loads, Stores, Branches, Jumps, Calls, Masks, Traps, ReadsCore, WritesCore, Always}
use Rattle.tc_isa.specs.declared.shapes.Arg.{Arg}
use Rattle.tc_isa.specs.declared.shapes.Arg.TheVariants.{Reg, Word}
use Rattle.tc_isa.specs.declared.shapes.Target.{Target}
use Rattle.tc_isa.specs.declared.shapes.Target.TheVariants as target
use Rattle.tc_isa.specs.declared.shapes.Shape.{Shape}
use Rattle.tc_isa.specs.declared.shapes.Shape.TheVariants.{Compute, Scaled, Load, Store, Branch, Jump, Call, Bisr, Syscall, Mfcr, Mtcr}
use Rattle.tc_isa.specs.Arithmetic.{sign_extended}

-- the register number of the data register Dn: n itself, from an instruction's field or fixed
abbrev pub d : ℕ → ℕ
d n = n

-- the register number of the address register An, which is 16 + n; n is from a field of an
-- instruction, or fixed
abbrev pub a : ℕ → ℕ
a n = 16 + n

-- the signed constant of an instruction: the low n bits of its field k, sign-extended to a word
abbrev pub sk : ℕ → Fields → ℕ
sk n f = sign_extended n (f.k % 2 ^ n)

-- the unsigned constant of an instruction: its field k itself
abbrev pub uk : Fields → ℕ
uk f = f.k

-- the upper-half constant of an instruction: its field k times 2^16, as a word
abbrev pub high_constant : Fields → ℕ
high_constant f = f.k * 2 ^ 16 % 2 ^ 32

-- the absolute address that the 18 bits of k encode: four bits of segment, and 14 of offset
abbrev pub address_in_constant : Fields → ℕ
address_in_constant f = f.k / 2 ^ 14 % 2 ^ 4 * 2 ^ 28 + f.k % 2 ^ 14

-- the absolute address that the 24 bits of k encode in ja and calla: four bits of segment, and 20
-- of offset in halfwords
abbrev pub code_address_in_constant : Fields → ℕ
code_address_in_constant f = f.k / 2 ^ 20 % 2 ^ 4 * 2 ^ 28 + f.k % 2 ^ 20 * 2

-- the distance of a jump, a call or a branch: twice the displacement k of n bits, sign-extended
abbrev pub doubled_displacement : ℕ → Fields → ℕ
doubled_displacement n f = 2 * sk n f % 2 ^ 32

-- the distance of a branch that only goes forwards: twice the displacement k, not sign-extended
abbrev pub forward_distance : Fields → ℕ
forward_distance f = 2 * f.k % 2 ^ 32

-- the number of the register that a field of an instruction names, or of a fixed one
abbrev pub register_from_fields : RegField → Fields → ℕ
register_from_fields Dc f = d f.c
register_from_fields Ds1 f = d f.s1
register_from_fields Ds2 f = d f.s2
register_from_fields D15 f = d 15
register_from_fields Ac f = a f.c
register_from_fields As1 f = a f.s1
register_from_fields As2 f = a f.s2
register_from_fields A10 f = a 10

-- the word of a constant, from the fields
abbrev pub constant_from_fields : Immediate → Fields → ℕ
constant_from_fields Zero f = 0
constant_from_fields Signed4 f = sk 4 f
constant_from_fields Signed9 f = sk 9 f
constant_from_fields Signed10 f = sk 10 f
constant_from_fields Signed16 f = sk 16 f
constant_from_fields Unsigned f = uk f
constant_from_fields High f = high_constant f
constant_from_fields Address f = address_in_constant f
constant_from_fields SignedS2 f = sign_extended 4 (f.s2 % 2 ^ 4)
constant_from_fields UnsignedS2 f = f.s2

-- an operand from the fields: a register, or the word of a constant
abbrev pub operand_from_fields : Operand → Fields → Arg
operand_from_fields (At p) f = Reg (register_from_fields p f)
operand_from_fields (Of c) f = Word (constant_from_fields c f)

-- the distance in bytes of a jump or a branch, from its displacement
abbrev pub distance_from_fields : Displacement → Fields → ℕ
distance_from_fields Ahead8 f = doubled_displacement 8 f
distance_from_fields Ahead15 f = doubled_displacement 15 f
distance_from_fields Ahead24 f = doubled_displacement 24 f
distance_from_fields AheadOnly f = forward_distance f

-- the target of a jump or a call, from the fields
abbrev pub target_from_fields : Destination → Fields → Target
target_from_fields (By b) f = target.Rel (distance_from_fields b f)
target_from_fields Code f = target.Abs (code_address_in_constant f)
target_from_fields (In p) f = target.Reg (register_from_fields p f)

-- what the instruction does, with these fields
abbrev pub shape_from_fields : Meaning → Fields → Shape
shape_from_fields (Computes op dst x y) f = Compute op (register_from_fields dst f) (operand_from_fields x f) (operand_from_fields y f)
shape_from_fields (Scales dst base index) f = Scaled (register_from_fields dst f) (register_from_fields base f) (register_from_fields index f) f.n
shape_from_fields (Loads dst base offset size sign after) f = Load (register_from_fields dst f) (operand_from_fields base f) (constant_from_fields offset f) size sign after
shape_from_fields (Stores src base offset size after) f = Store (register_from_fields src f) (operand_from_fields base f) (constant_from_fields offset f) size after
shape_from_fields (Branches cond x y by lowers) f = Branch cond (register_from_fields x f) (operand_from_fields y f) (distance_from_fields by f) lowers
shape_from_fields (Jumps to) f = Jump (target_from_fields to f)
shape_from_fields (Calls to) f = Call (target_from_fields to f)
shape_from_fields Masks f = Bisr (uk f % 256)
shape_from_fields Traps f = Syscall (uk f % 256)
shape_from_fields (ReadsCore dst) f = Mfcr (register_from_fields dst f) (uk f % 2 ^ 16)
shape_from_fields (WritesCore src) f = Mtcr (register_from_fields src f) (uk f % 2 ^ 16)
shape_from_fields (Always s) f = s
