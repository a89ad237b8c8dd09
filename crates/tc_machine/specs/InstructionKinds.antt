-- Kinds of instructions: one for each function that executes them, and those that never change the
-- memory or PCXI.
use Rattle.tc_isa.specs.declared.shapes.Shape.{Shape}
use Rattle.tc_isa.specs.declared.shapes.Shape.TheVariants.{Load, Store, Call, Ret, Rfe, Svlcx, Rslcx, Bisr, Enable, Disable, Syscall, Mfcr, Mtcr, Compute, Scaled, Branch, Jump, Nothing}
use Rattle.std.specs.Prelude.{ℕ, Bool, true, false, not, ◌&&◌, Result, Ok, Err}
use Rattle.tc_machine.specs.declared.events.Cause.{Cause}
use Rattle.tc_machine.specs.declared.events.Event.{Event}
use Rattle.tc_machine.specs.declared.state.Machine.{Machine}
use Rattle.tc_machine.specs.Stepping.{is_interrupt_taken}

-- if the instruction is a load or a store, P
abbrev pub IfLoadOrStore : Shape → Type 0 → Type 0
IfLoadOrStore (Load dst base offset size signed after) P = P
IfLoadOrStore (Store src base offset size after) P = P
IfLoadOrStore _ P = Unit {0}

-- if the instruction saves or restores a context, P
abbrev pub IfContextInstruction : Shape → Type 0 → Type 0
IfContextInstruction (Call to) P = P
IfContextInstruction Ret P = P
IfContextInstruction Rfe P = P
IfContextInstruction Svlcx P = P
IfContextInstruction Rslcx P = P
IfContextInstruction (Bisr c) P = P
IfContextInstruction (Syscall tin) P = P
IfContextInstruction _ P = Unit {0}

-- if the instruction enables or disables interrupts, or reads or writes a core register, P
abbrev pub IfSystemInstruction : Shape → Type 0 → Type 0
IfSystemInstruction Enable P = P
IfSystemInstruction Disable P = P
IfSystemInstruction (Mfcr dst number) P = P
IfSystemInstruction (Mtcr src number) P = P
IfSystemInstruction _ P = Unit {0}

-- the kind of instructions that never change the machine's memory or PCXI: no store, save or
-- restore, no write of a core register, and none that can trap
abbrev pub is_area_preserving_shape : Event → Shape → Bool
is_area_preserving_shape e (Load dst base offset size signed after) = not e.aln
is_area_preserving_shape e (Compute op dst x y) = true
is_area_preserving_shape e (Scaled dst base index k) = true
is_area_preserving_shape e (Branch cond x y by lowers) = true
is_area_preserving_shape e (Jump to) = true
is_area_preserving_shape e (Mfcr dst number) = true
is_area_preserving_shape e Enable = true
is_area_preserving_shape e Disable = true
is_area_preserving_shape e Nothing = true
is_area_preserving_shape e _ = false

-- what was found is an instruction that never changes the memory or PCXI
abbrev pub is_area_preserving_fetch : Event → Result (Shape × ℕ) Cause → Bool
is_area_preserving_fetch e (Ok found) = is_area_preserving_shape e found.0
is_area_preserving_fetch e (Err cause) = false

-- no interrupt is taken in this event of the machine, and the instruction found at pc is of the
-- kind that never changes the memory or PCXI
abbrev pub is_area_preserving_event : Machine → Event → Result (Shape × ℕ) Cause → Bool
is_area_preserving_event m e found = not (is_interrupt_taken m e) && is_area_preserving_fetch e found
