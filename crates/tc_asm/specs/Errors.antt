-- The errors of the assembler.
use Rattle.std.specs.Prelude.{ℕ}
use Rattle.tc_asm.specs.declared.errors.AsmErr.{AsmErr}
use Rattle.tc_asm.specs.declared.errors.AsmErr.TheVariants.{Bad, NoMemory}

-- the property of the line and rule of a bad line; out of memory says nothing of the source
abbrev pub IfBadLine : (ℕ → ℕ → Type 0) → AsmErr → Type 0
IfBadLine P (Bad line rule) = P line rule
IfBadLine P NoMemory = Unit {0}
