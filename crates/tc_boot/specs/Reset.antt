-- The states at reset, and the states that the boot sequence reaches from them.
use Rattle.std.specs.Prelude.{◌≡◌, ◌+◌, ◌*◌, ◌<◌, ℕ, false, List, length, take}
use Rattle.elf_image.specs.Images.{ImageData}
use Rattle.tcd_plan.specs.PlanData.{PlanData}
use Rattle.tc_machine.specs.declared.events.Event.{Event}
use Rattle.tc_machine.specs.declared.events.End.TheVariants.{Running}
use Rattle.tc_machine.specs.declared.state.Machine.{Machine}
use Rattle.tc_machine.specs.Stepping.{run}
use Rattle.tc_machine.specs.Safe.{Fits, AllFit, IsSafeAt}
use Rattle.tc_machine.specs.Starting.{Starts}
use Rattle.tc_machine.specs.Machine.{IsMachine}
use Rattle.tc_mem.specs.PlanMemory.{IsPlanMemory, HoldsRom}
use Rattle.tc_boot.specs.Sequence.{boot_events}

-- A state at reset: the machine runs at this address with interrupts off, and its memory is the
-- plan's with the image's bytes in rom. All else is arbitrary, the CSAs included.
pub record Reset (image : ImageData) (plan : PlanData) (at : ℕ) (m : Machine) : Type 0 where
  pub machine : IsMachine m
  pub running : m.end ≡ Running
  pub pc : m.pc ≡ at
  pub off : m.ie ≡ false
  pub core : m.core ≡ plan.core
  pub memory : IsPlanMemory plan m.mem
  pub rom : HoldsRom image plan m.mem

-- on the way from reset to a start state: the machine runs at one of the 56 instructions of the
-- boot sequence, with interrupts off
pub record IsBooting (at : ℕ) (m : Machine) : Type 0 where
  pub running : m.end ≡ Running
  pub off : m.ie ≡ false
  pub place : ℕ
  pub within : place < 56
  pub pc : m.pc ≡ at + 4 * place

-- from this state, as one at reset, the events lead to a start state, and the machine is inside the
-- boot sequence before each of them
pub record BootsToStart (image : ImageData) (plan : PlanData) (at : ℕ) (m : Machine) (es : List Event) : Type 0 where
  pub starts : Starts image plan (run m es)
  pub before : (n : ℕ) → n < length es → IsBooting at (run m (take n es))

-- from any state at reset, under fitting events, the boot sequence leads to a start state, and each
-- state after it is safe
abbrev pub BootsSafely : ImageData → PlanData → ℕ → ℕ → Type 0
BootsSafely image plan at most =
    (m : Machine) (boot es : List Event) (e : Event) → Reset image plan at m → AllFit plan m boot → length boot ≡ boot_events plan
    → AllFit plan (run m boot) es → Fits plan (run (run m boot) es) e → BootsToStart image plan at m boot × IsSafeAt image plan most (run (run m boot) es) e
