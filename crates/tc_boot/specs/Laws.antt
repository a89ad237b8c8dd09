-- Consequences of this crate's definitions, in plain equations.
use Rattle.std.specs.Prelude.{◌≡◌, ◌+◌, ◌*◌, ◌<◌, ℕ, false, List, ◌++◌, length, take, Result}
use Rattle.elf_image.specs.Images.{ImageData, IsImage}
use Rattle.tcd_plan.specs.PlanData.{PlanData, IsPlan}
use Rattle.tc_machine.specs.declared.events.Event.{Event}
use Rattle.tc_machine.specs.declared.events.End.TheVariants.{Running}
use Rattle.tc_machine.specs.declared.state.Machine.{Machine}
use Rattle.tc_machine.specs.Stepping.{run}
use Rattle.tc_machine.specs.Safe.{Fits, AllFit, IsSafeAt, Safe}
use Rattle.tc_machine.specs.Starting.{Starts}
use Rattle.tc_machine.specs.Machine.{IsMachine}
use Rattle.tc_mem.specs.PlanMemory.{IsPlanMemory, HoldsRom}
use Rattle.tc_boot.specs.declared.judging.BootErr.{BootErr}
use Rattle.tc_boot.specs.Reset.{Reset, BootsToStart, BootsSafely}
use Rattle.tc_boot.specs.Judging.{HasBoot, IsBootEventCountOrFirstFault}
use Rattle.tc_boot.specs.Sequence.{boot_events}

-- The project's reading of a reset. A machine is at reset if it runs at the address with interrupts
-- off, has the plan's core and memory, and has the image's bytes in rom. Its registers, ram and
-- CSAs can hold anything.
abbrev pub AllAreAtReset : Type 0
AllAreAtReset =
    (image : ImageData) (plan : PlanData) (at : ℕ) (m : Machine) → IsMachine m → m.end ≡ Running → m.pc ≡ at → m.ie ≡ false → m.core ≡ plan.core
    → IsPlanMemory plan m.mem → HoldsRom image plan m.mem → Reset image plan at m

-- Before the last event of a boot the machine runs with interrupts off at one of 56 places, four
-- bytes apart.
abbrev pub BootsStayInSequence : Type 0
BootsStayInSequence =
    (image : ImageData) (plan : PlanData) (at : ℕ) (m : Machine) (es : List Event) (n : ℕ) → BootsToStart image plan at m es → n < length es
    → ((run m (take n es)).end ≡ Running) × ((run m (take n es)).ie ≡ false) × ((place : ℕ) × (place < 56) × ((run m (take n es)).pc ≡ at + 4 * place))

-- Suppose that an image boots safely from an address. Take a machine that runs there with
-- interrupts off, with the plan's core and memory and the image's bytes in rom. Take fitting
-- events, 53 and three for each CSA, and then any number more. Before each of the former, the
-- machine runs with interrupts off at one of 56 places, four bytes apart. They lead to a start
-- state, and each later state is safe.
abbrev pub EveryBootIsSafe : Type 0
EveryBootIsSafe =
    (image : ImageData) (plan : PlanData) (at most : ℕ) (m : Machine) (boot es : List Event) (e : Event) → BootsSafely image plan at most
    → IsMachine m → m.end ≡ Running → m.pc ≡ at → m.ie ≡ false → m.core ≡ plan.core → IsPlanMemory plan m.mem → HoldsRom image plan m.mem
    → length boot ≡ 53 + 3 * plan.areas → AllFit plan m (boot ++ es) → Fits plan (run m (boot ++ es)) e
    → ((n : ℕ) → n < length boot
    → ((run m (take n boot)).end ≡ Running) × ((run m (take n boot)).ie ≡ false) × ((place : ℕ) × (place < 56) × ((run m (take n boot)).pc ≡ at + 4 * place)))
    × Starts image plan (run m boot) × IsSafeAt image plan most (run m (boot ++ es)) e

-- The test of a boot sequence has one answer.
abbrev pub BootTestHasOneResult : Type 0
BootTestHasOneResult = (image : ImageData) (plan : PlanData) (at : ℕ) (r s : Result ℕ BootErr) → IsBootEventCountOrFirstFault image plan at r → IsBootEventCountOrFirstFault image plan at s → r ≡ s

-- If the image holds a boot sequence that may run, then it leads from every state at reset to a
-- start state. The events are any list of fitting events with as many events as the sequence has.
abbrev pub BootReachesStart : Type 0
BootReachesStart =
    (image : ImageData) (plan : PlanData) (at : ℕ) (m : Machine) (es : List Event) → IsPlan plan → IsImage image → HasBoot image plan at → Reset image plan at m
    → AllFit plan m es → length es ≡ boot_events plan → BootsToStart image plan at m es

-- an image that is safe from its start states is safe from reset on, if the boot sequence is there
-- and may run
abbrev pub SafeImagesBootSafely : Type 0
SafeImagesBootSafely = (image : ImageData) (plan : PlanData) (at most : ℕ) → IsPlan plan → IsImage image → HasBoot image plan at → Safe image plan most → BootsSafely image plan at most
