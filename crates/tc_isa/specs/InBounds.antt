-- Bounds of what instructions do: registers are below 32, words below 2 ^ 32.
use Rattle.std.specs.Prelude.{◌≡◌, ◌<◌, ◌^◌, ◌⊎◌, ℕ, ◌&&◌, Bool, nat_lt}
use Rattle.tc_isa.specs.declared.shapes.Arg.{Arg}
use Rattle.tc_isa.specs.declared.shapes.Arg.TheVariants.{Reg, Word}
use Rattle.tc_isa.specs.declared.shapes.Target.{Target}
use Rattle.tc_isa.specs.declared.shapes.Target.TheVariants as target
use Rattle.tc_isa.specs.declared.shapes.Shape.{Shape}
use Rattle.tc_isa.specs.declared.shapes.Shape.TheVariants.{Compute, Scaled, Load, Store, Branch, Jump, Call, Ret, Rfe, Svlcx, Rslcx, Bisr, Enable, Disable, Syscall, Mfcr, Mtcr, Nothing}
use Rattle.tc_isa.specs.declared.fields.Fields.{Fields}
use Rattle.tcd_base.specs.Bytes.{IsWord}
use Rattle.tc_isa.specs.Forms.{field_bounds}

-- the number of a register in the shape of an instruction is in bounds: below 32
abbrev pub IsRegister : ℕ → Type 0
IsRegister r = r < 32

-- an operand: one of the registers, or a word
abbrev pub IsArgInBounds : Arg → Type 0
IsArgInBounds (Reg r) = IsRegister r
IsArgInBounds (Word w) = IsWord w

-- a target: a distance, an address, or one of the registers
abbrev pub IsTargetInBounds : Target → Type 0
IsTargetInBounds (target.Rel w) = IsWord w
IsTargetInBounds (target.Abs w) = IsWord w
IsTargetInBounds (target.Reg r) = IsRegister r

-- the size of an access in the shape of an instruction is in bounds: one, two or four bytes
abbrev pub IsOneTwoOrFour : ℕ → Type 0
IsOneTwoOrFour n = (n ≡ 1) ⊎ ((n ≡ 2) ⊎ (n ≡ 4))

-- the registers, words, sizes and numbers of a shape are within their bounds
abbrev pub IsShapeInBounds : Shape → Type 0
IsShapeInBounds (Compute op dst x y) = IsRegister dst × IsArgInBounds x × IsArgInBounds y
IsShapeInBounds (Scaled dst base index n) = IsRegister dst × IsRegister base × IsRegister index × (n < 4)
IsShapeInBounds (Load dst base offset size sign after) = IsRegister dst × IsArgInBounds base × IsWord offset × IsOneTwoOrFour size
IsShapeInBounds (Store src base offset size after) = IsRegister src × IsArgInBounds base × IsWord offset × IsOneTwoOrFour size
IsShapeInBounds (Branch cond x y by lowers) = IsRegister x × IsArgInBounds y × IsWord by
IsShapeInBounds (Jump to) = IsTargetInBounds to
IsShapeInBounds (Call to) = IsTargetInBounds to
IsShapeInBounds Ret = Unit {0}
IsShapeInBounds Rfe = Unit {0}
IsShapeInBounds Svlcx = Unit {0}
IsShapeInBounds Rslcx = Unit {0}
IsShapeInBounds (Bisr c) = c < 256
IsShapeInBounds Enable = Unit {0}
IsShapeInBounds Disable = Unit {0}
IsShapeInBounds (Syscall tin) = tin < 256
IsShapeInBounds (Mfcr dst number) = IsRegister dst × (number < 2 ^ 16)
IsShapeInBounds (Mtcr src number) = IsRegister src × (number < 2 ^ 16)
IsShapeInBounds Nothing = Unit {0}

-- the fields of an instruction are small: register fields have four bits, n two, and k at most 24
pub record FieldsFitTheirBits (f : Fields) : Type 0 where
  pub c : f.c < 16
  pub s1 : f.s1 < 16
  pub s2 : f.s2 < 16
  pub n : f.n < 4
  pub k : f.k < 2 ^ 24

-- each field is below its bound; a field that the form doesn't have has the bound 1
pub record AreFieldsBelow (f bounds : Fields) : Type 0 where
  pub c : f.c < bounds.c
  pub s1 : f.s1 < bounds.s1
  pub s2 : f.s2 < bounds.s2
  pub n : f.n < bounds.n
  pub k : f.k < bounds.k

-- the test that each field of an instruction is below the bound for that field
abbrev pub are_fields_below : Fields → Fields → Bool
are_fields_below f b = nat_lt f.c b.c && nat_lt f.s1 b.s1 && nat_lt f.s2 b.s2 && nat_lt f.n b.n && nat_lt f.k b.k
