-- The registers that an instruction writes by itself.
use Rattle.std.specs.Prelude.{◌^◌, ℕ, Bool, if◌then◌else◌, bit_or}
use Rattle.tc_isa.specs.declared.shapes.Arg.{Arg}
use Rattle.tc_isa.specs.declared.shapes.Arg.TheVariants.{Reg, Word}
use Rattle.tc_isa.specs.declared.shapes.Shape.{Shape}
use Rattle.tc_isa.specs.declared.shapes.Shape.TheVariants.{Compute, Scaled, Load, Store, Branch, Jump, Call, Ret, Rfe, Svlcx, Rslcx, Bisr, Enable, Disable, Syscall, Mfcr, Mtcr, Nothing}
use Rattle.tc_isa.specs.Insts.{InstData}
use Rattle.tc_isa.specs.Meanings.{shape_of}

-- the bit of register r in the mask of registers that an instruction writes
abbrev pub register_bit : ℕ → ℕ
register_bit r = 2 ^ r

-- the bit, in the mask of written registers, of a base register that post-increment writes; else 0
abbrev pub increased_base_bit : Bool → Arg → ℕ
increased_base_bit after (Reg r) = if after then register_bit r else 0
increased_base_bit after (Word w) = 0

-- the bits of the registers that a shape writes, except what saving and restoring contexts writes
-- and A11 of calls
abbrev pub written_by : Shape → ℕ
written_by (Compute op dst x y) = register_bit dst
written_by (Scaled dst base index n) = register_bit dst
written_by (Load dst base offset size sign after) = bit_or (register_bit dst) (increased_base_bit after base)
written_by (Store src base offset size after) = increased_base_bit after base
written_by (Branch cond x y by lowers) = if lowers then register_bit x else 0
written_by (Jump to) = 0
written_by (Call to) = 0
written_by Ret = 0
written_by Rfe = 0
written_by Svlcx = 0
written_by Rslcx = 0
written_by (Bisr c) = 0
written_by Enable = 0
written_by Disable = 0
written_by (Syscall tin) = 0
written_by (Mfcr dst number) = register_bit dst
written_by (Mtcr src number) = 0
written_by Nothing = 0

-- the mask of the registers that an instruction writes by itself: bit n for Dn, 16 + n for An
abbrev pub written_registers : InstData → ℕ
written_registers i = written_by (shape_of i)
