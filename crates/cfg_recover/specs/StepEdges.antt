-- The edges of steps: where a step begins, and how it goes on.
use Rattle.std.specs.Prelude.{ℕ, if◌then◌else◌, Result, Ok, Err}
use Rattle.tc_isa.specs.declared.shapes.Shape.{Shape}
use Rattle.tc_isa.specs.declared.shapes.Shape.TheVariants.{Call, Ret, Rfe, Syscall}
use Rattle.tc_machine.specs.declared.events.Cause.{Cause}
use Rattle.tc_machine.specs.declared.events.Event.{Event}
use Rattle.tc_machine.specs.declared.state.Machine.{Machine}
use Rattle.tc_machine.specs.Fetching.{fetched_instruction}
use Rattle.tc_machine.specs.Stepping.{is_interrupt_taken, step}
use Rattle.tc_machine.specs.Instructions.{is_trapping_instruction}

-- How a step goes on: to an address in its frame; into the frame of a call, an interrupt, a system
-- call or a misaligned access, at its entry; or out of its frame.
pub data EdgeWay : Type 0 where
  to : ℕ → EdgeWay
  call : ℕ → EdgeWay
  irq : ℕ → EdgeWay
  sys : ℕ → EdgeWay
  aln : ℕ → EdgeWay
  ret : EdgeWay
  rfe : EdgeWay

-- an edge: where a step begins, and how it goes on
pub record Edge : Type 0 where
  pub at : ℕ
  pub way : EdgeWay

-- how a step of an instruction of this shape goes on, at the address q, if there is no trap
abbrev pub edge_way_of_shape : Shape → ℕ → EdgeWay
edge_way_of_shape (Call x) q = call q
edge_way_of_shape Ret q = ret
edge_way_of_shape Rfe q = rfe
edge_way_of_shape (Syscall tin) q = sys q
edge_way_of_shape _ q = to q

-- how a step of an instruction of this shape goes on, at the address q: into the handler if its
-- access traps
abbrev pub edge_way_by_trap : Machine → Event → Shape → ℕ → EdgeWay
edge_way_by_trap m e shape q = if is_trapping_instruction m e shape then aln q else edge_way_of_shape shape q

-- how a step without an interrupt goes on, by what was fetched; if nothing is, the machine stays
abbrev pub edge_way_in_fetch : Machine → Event → Result (Shape × ℕ) Cause → ℕ → EdgeWay
edge_way_in_fetch m e (Ok found) q = edge_way_by_trap m e found.0 q
edge_way_in_fetch m e (Err cause) q = to q

-- how a step goes on: into an interrupt's handler if one is taken, else by what was fetched
abbrev pub edge_way_of_step : Machine → Event → EdgeWay
edge_way_of_step m e = if is_interrupt_taken m e then irq (step m e).pc else edge_way_in_fetch m e (fetched_instruction m) (step m e).pc

-- the edge of a machine's step: from pc, and how the step goes on
abbrev pub edge_of_step : Machine → Event → Edge
edge_of_step m e = record { at = m.pc; way = edge_way_of_step m e }
