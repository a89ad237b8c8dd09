-- The values of the states in a Flow.
use Rattle.std.specs.Prelude.{All, IfSome, Option}
use Rattle.value_domain.specs.Limits.{Limits}
use Rattle.value_domain.specs.State.{AreInLattice}
use Rattle.cfg_recover.specs.declared.flow_types.Jump.{Jump}
use Rattle.cfg_recover.specs.declared.flow_types.Enter.{Enter}
use Rattle.cfg_recover.specs.declared.flow_types.Flow.{Flow}

-- the state of a jump in a Flow has values of the plan's lattice
abbrev pub IsJumpInLattice : Limits → Option Jump → Type 0
IsJumpInLattice b jump = IfSome jump (λ j. AreInLattice b (j.state).regs)

-- the state of an entry in a Flow has values of the plan's lattice
abbrev pub IsEntryInLattice : Limits → Option Enter → Type 0
IsEntryInLattice b entry = IfSome entry (λ e. AreInLattice b (e.state).regs)

-- each state in a Flow has values of the plan's lattice
pub record IsFlowInLattice (b : Limits) (f : Flow) : Type 0 where
  pub jumps : All (IsJumpInLattice b) f.jumps
  pub enter : IsEntryInLattice b f.enter
  pub misaligned : IsEntryInLattice b f.aln
  pub interrupts : AreInLattice b (f.irq_entry).regs
