-- What is known within the limits of a format.
use Rattle.std.specs.Prelude.{◌≡◌, ◌≤◌, length}
use Rattle.value_domain.specs.declared.states.State.{State}
use Rattle.value_domain.specs.Limits.{Limits}
use Rattle.value_domain.specs.State.{AreInLattice}
use Rattle.depth_cert.specs.declared.points.Exit.{Exit}
use Rattle.depth_cert.specs.Known.{Known, leaving, state}

-- a state at the limits: 27 values of the plan's lattice, and no more locals than the format allows
pub record IsWellFormedState (b : Limits) (s : State) : Type 0 where
  pub regs : length s.regs ≡ 27
  pub values : AreInLattice b s.regs
  pub few : length s.locals.items ≤ b.most_locals

-- an exit is within the limits of a plan and a format: 14 values of the plan's lattice
pub record IsWellFormedExit (b : Limits) (x : Exit) : Type 0 where
  pub regs : length x.lower ≡ 14
  pub values : AreInLattice b x.lower

-- what is known at a place of a frame, a state or an exit, is within the limits of a plan and a
-- format
abbrev pub IsWellFormedKnown : Limits → Known → Type 0
IsWellFormedKnown b (state s) = IsWellFormedState b s
IsWellFormedKnown b (leaving x) = IsWellFormedExit b x
