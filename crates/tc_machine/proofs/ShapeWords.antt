-- The numbers in what instructions do: words and sizes.
use Rattle.std.proofs.Common.{◌≡◌, ℕ, ◌+◌, ◌-◌, ◌^◌, ◌<◌, ◌≤◌, ◌⊎◌, Bool, true, false, cond, arith}
use Rattle.tc_isa.specs.declared.shapes.Arg.{Arg}
use Rattle.tc_isa.specs.declared.shapes.Arg.TheVariants.{Reg, Word}
use Rattle.tc_isa.specs.declared.shapes.Target.{Target}
use Rattle.tc_isa.specs.declared.shapes.Target.TheVariants as target
use Rattle.tc_isa.specs.declared.shapes.Shape.{Shape}
use Rattle.tc_isa.specs.declared.shapes.Shape.TheVariants.{Compute, Load, Jump, Call, Bisr, Syscall}
use Rattle.tc_isa.specs.Insts.{InstData, IsInst}
use Rattle.tc_isa.specs.Meanings.{shape_of}
use Rattle.tc_isa.specs.InBounds as bounded
use Rattle.tc_isa.proofs.ShapeBounds.{shape_is}

-- an operand's word has 32 bits, and so has an address
abbrev pub IsArg : Arg → Type 0
IsArg (Reg r) = Unit {0}
IsArg (Word w) = w < 2 ^ 32

abbrev pub IsTarget : Target → Type 0
IsTarget (target.Rel by) = Unit {0}
IsTarget (target.Abs x) = x < 2 ^ 32
IsTarget (target.Reg r) = Unit {0}

abbrev pub IsSize : ℕ → Type 0
IsSize size = (size ≡ 1) ⊎ (size ≡ 2) ⊎ (size ≡ 4)

-- the numbers that can get into registers are words, the priority of BISR is a byte, and loads are
-- of 1, 2 or 4 bytes
abbrev pub IsShape : Shape → Type 0
IsShape (Compute op dst x y) = IsArg x × IsArg y
IsShape (Load dst base offset size signed after) = IsSize size
IsShape (Jump to) = IsTarget to
IsShape (Call to) = IsTarget to
IsShape (Bisr c) = c < 2 ^ 8
IsShape (Syscall tin) = tin < 2 ^ 32
IsShape _ = Unit {0}

pub extended_lt : (x p : ℕ) (b : Bool) → x < p → p ≤ 2 ^ 32 → cond b x (x + 2 ^ 32 - p) < 2 ^ 32
extended_lt x p true lt le = omega arith
extended_lt x p false lt le = omega arith

arg_word : (x : Arg) → bounded.IsArgInBounds x → IsArg x
arg_word (Reg r) h = tt
arg_word (Word w) h = h

target_word : (to : Target) → bounded.IsTargetInBounds to → IsTarget to
target_word (target.Rel by) h = tt
target_word (target.Abs x) h = h
target_word (target.Reg r) h = tt

shape_words : (s : Shape) → bounded.IsShapeInBounds s → IsShape s
shape_words (Compute op dst x y) h = (arg_word x h.1, arg_word y h.2)
shape_words (Load dst base offset size signed after) h = h.3
shape_words (Jump to) h = target_word to h
shape_words (Call to) h = target_word to h
shape_words (Bisr c) h = h
shape_words (Syscall tin) h = omega arith
shape_words _ h = tt

-- what an instruction of the table does
pub shape_of-suits : (i : InstData) → IsInst i → IsShape (shape_of i)
shape_of-suits i h = shape_words (shape_of i) (shape_is i h)
