-- The laws of machines, for all programs, and the guard laws, which say in plain equations what the
-- definitions under the headline say: a definition that requires more would break one of them.
use Rattle.std.specs.Prelude.{◌≡◌, ◌≢◌, ℕ, ◌%◌, ◌^◌, ◌<◌, Bool, true, false, List, length, Ok, ◌↔◌, zero, suc, ◌+◌, ◌-◌, ◌*◌, ◌/◌, ◌≤◌, ◌⊎◌, ◌==◌, ◌∷◌, ◌++◌, reverse, map, slice_get, slice_index, All, Contains, Some, []}
use Rattle.csa_chain.specs.Chain.{link_in, is_area_mapped, link_address, area_word}
use Rattle.elf_image.specs.Images.{ImageData, IsImage, image_byte}
use Rattle.tcd_plan.specs.PlanData.{PlanData, IsPlan}
use Rattle.tc_isa.specs.Insts.{InstData}
use Rattle.tc_isa.specs.Meanings.{shape_of}
use Rattle.tc_isa.specs.declared.shapes.Shape.{Shape}
use Rattle.tc_machine.specs.declared.events.Cause.{Cause}
use Rattle.tc_machine.specs.declared.events.Cause.TheVariants.{Fcd}
use Rattle.tc_machine.specs.declared.events.Event.{Event}
use Rattle.tc_machine.specs.declared.events.End.TheVariants.{Running, Dead}
use Rattle.tc_machine.specs.declared.state.Machine.{Machine}
use Rattle.tc_machine.specs.Instructions.{after_instruction, access_address}
use Rattle.tc_machine.specs.Machine.{psw_with_status, IsMachine}
use Rattle.tc_machine.specs.SavesAndRestores.{with_context_saved, save, is_last_context_of_kind, with_context_restored, restore}
use Rattle.tc_machine.specs.Fetching.{fetched_instruction}
use Rattle.tc_machine.specs.Stepping.{is_interrupt_taken, step, run, load_at_pc, stored, IsRun}
use Rattle.tc_machine.specs.Safe.{AllFit, SpellsAt, ChainsAreWhole, Fits, Safe}
use Rattle.tc_machine.specs.Starting.{Starts}
use Rattle.tc_mem.specs.PlanMemory.{HoldsRom}
use Rattle.csa_chain.specs.MemoryBytes.{Memory, is_mapped}
use Rattle.tcd_base.specs.declared.range.Range.{Range}
use Rattle.tcd_base.specs.Ranges.{IsInOneRange}
use Rattle.tcd_plan.specs.declared.plans.Device.{Device}
use Rattle.tc_isa.specs.Spelling.{Spells}
use Rattle.tc_isa.specs.declared.shapes.Arg.{Arg}
use Rattle.tc_isa.specs.declared.shapes.Shape.TheVariants.{Store}
use Rattle.tc_machine.specs.PlanAreas.{first_link}
use Rattle.std.specs.FinMap as bytes

-- in a start state all areas are free
abbrev pub AllAreasFreeAtStart : Type 0
AllAreasFreeAtStart = (image : ImageData) (plan : PlanData) (m : Machine) → IsPlan plan → Starts image plan m → ChainsAreWhole plan 0 m

-- law for all programs: if the machine's memory has the image's bytes in rom, bytes in rom at an
-- even pc that spell an instruction are fetched as that instruction
abbrev pub SpelledCodeIsFetched : Type 0
SpelledCodeIsFetched =
    (image : ImageData) (plan : PlanData) (m : Machine) (bytes : List ℕ) (inst : InstData) → IsPlan plan → HoldsRom image plan m.mem →
    m.pc % 2 ≡ 0 → SpellsAt image plan m.pc bytes inst → fetched_instruction m ≡ Ok (shape_of inst, length bytes)

-- a save succeeds if the first free area is mapped and isn't the limit of the list
abbrev pub MachineSaveSucceeds : Type 0
MachineSaveSucceeds =
    (m : Machine) (upper : Bool) → link_in m.fcx ≢ 0 → is_area_mapped m.mem (link_in m.fcx) ≡ true → link_in m.fcx ≢ link_in m.lcx → save m upper ≡ with_context_saved m upper

-- a restore succeeds if PCXI names a mapped area with a context of its kind
abbrev pub MachineRestoreSucceeds : Type 0
MachineRestoreSucceeds =
    (m : Machine) (upper : Bool) → link_in m.pcxi ≢ 0 → is_last_context_of_kind m upper ≡ true → is_area_mapped m.mem (link_in m.pcxi) ≡ true → restore m upper ≡ with_context_restored m upper

-- a step without an interrupt executes the instruction at pc and writes the event's status to PSW,
-- if the machine runs before and after
abbrev pub MachineStepExecutes : Type 0
MachineStepExecutes =
    (m : Machine) (e : Event) (shape : Shape) (n : ℕ) → m.end ≡ Running → is_interrupt_taken m e ≡ false → fetched_instruction m ≡ Ok (shape, n) → (after_instruction m e shape n).end ≡ Running →
    step m e ≡ record (after_instruction m e shape n) { psw = psw_with_status (after_instruction m e shape n).psw e.status }

-- A machine that died in an event, and not of Fcd, is the machine before it with that end: nothing
-- else changed.
abbrev pub DeathChangesEndOnly : Type 0
DeathChangesEndOnly = (m : Machine) (e : Event) (cause : Cause) → (step m e).end ≡ Dead cause → cause ≢ Fcd → step m e ≡ record m { end = Dead cause }

-- a step keeps words in the registers and bytes in the memory
abbrev pub StepKeepsMachine : Type 0
StepKeepsMachine = (m : Machine) (e : Event) → IsMachine m → e.irq < 2 ^ 8 → e.input < 2 ^ 32 → e.status < 2 ^ 8 → IsMachine (step m e)

-- every run from a start state keeps words in the registers and bytes in memory, if events fit
abbrev pub RunKeepsMachine : Type 0
RunKeepsMachine = (image : ImageData) (plan : PlanData) (m : Machine) (es : List Event) → IsPlan plan → Starts image plan m → AllFit plan m es → IsMachine (run m es)

-- ---- guard laws: what the definitions under the headline say, in plain equations
-- An event fits if its interrupt is none or one of the plan's, and its input is within bounds. If
-- no interrupt is taken, these are of the peripheral that has the loaded word. The status is any
-- byte.
abbrev pub EquationsImplyEventFits : Type 0
EquationsImplyEventFits =
    (plan : PlanData) (m : Machine) (irq input status : ℕ) (aln : Bool) → (irq ≡ 0) ⊎ Contains plan.irqs irq → input < 2 ^ 32 → status < 2 ^ 8
    → ((m.ie ≡ true → irq ≤ m.ccpn) → (x k : ℕ) (d : Device) → load_at_pc m ≡ Some (x, 4) → slice_get plan.devices k ≡ Some d
    → d.range.at ≤ x → x + 4 ≤ d.range.at + d.range.len → (d.lo ≤ input) × (input ≤ d.hi))
    → Fits plan m (record { irq = irq; input = input; status = status; aln = aln })

-- the list of the first n events of a sequence, in the guard law that every run fits
abbrev pub first_events : ℕ → (ℕ → Event) → List Event
first_events zero events = []
first_events (suc n) events = events 0 ∷ first_events n (λ k. events (suc k))

-- If each of the first n events fits the state before, they all fit as AllFit says, and their run
-- ends in state n.
abbrev pub EquationsImplyRunFits : Type 0
EquationsImplyRunFits =
    (plan : PlanData) (states : ℕ → Machine) (events : ℕ → Event) (n : ℕ) → IsRun states events → ((k : ℕ) → k < n → Fits plan (states k) (events k))
    → AllFit plan (states 0) (first_events n events) × (run (states 0) (first_events n events) ≡ states n)

-- guard law of start states: a machine starts the image under the plan if its fields are as these
-- plain equations say; all other registers, bits of PSW and bytes can be anything
abbrev pub EquationsImplyStartState : Type 0
EquationsImplyStartState =
    (image : ImageData) (plan : PlanData) (d a : List ℕ) (psw : ℕ) (mem : Memory) → IsImage image → IsPlan plan
    → length d ≡ 16 → All (λ w. w < 2 ^ 32) d → length a ≡ 16 → All (λ w. w < 2 ^ 32) a → psw < 2 ^ 32
    → ((x b : ℕ) → bytes.get mem x ≡ Some b → b < 2 ^ 8)
    → ((x : ℕ) → (is_mapped mem x ≡ true) ↔ (IsInOneRange x 1 plan.rom ⊎ IsInOneRange x 1 plan.ram ⊎ ((plan.csa_at ≤ x) × (x < plan.csa_at + 64 * plan.areas))))
    → ((x b : ℕ) → IsInOneRange x 1 plan.rom → image_byte image x ≡ Some b → bytes.get mem x ≡ Some b)
    → ((i : ℕ) → i + 1 < plan.areas → area_word mem (first_link plan + i) 0 ≡ first_link plan + (i + 1))
    → ((i : ℕ) → i + 1 ≡ plan.areas → area_word mem (first_link plan + i) 0 ≡ 0)
    → slice_index a 10 ≡ plan.sp → slice_index a 0 ∷ slice_index a 1 ∷ slice_index a 8 ∷ slice_index a 9 ∷ [] ≡ plan.globals
    → (psw / 2 ^ 9 % 2 == 1) ≡ plan.start_is → psw / 2 ^ 10 % 4 ≡ 2
    → Starts image plan (record {
      pc = image.entry;
      d = d;
      a = a;
      psw = psw;
      pcxi = 0;
      fcx = first_link plan;
      lcx = first_link plan + (plan.areas - plan.reserve);
      ccpn = plan.start_ccpn;
      ie = plan.start_ie;
      biv = plan.biv;
      btv = plan.btv;
      isp = plan.isp;
      mem = mem;
      end = Running;
      core = plan.core;
    })

-- ---- what is safe
-- what the guard law of safety says of a chain: the links from a word on, each of a mapped area of
-- 64 bytes whose word 0 has the next link; the link after the last is 0
abbrev pub IsAreaWalk : Memory → ℕ → List ℕ → Type 0
IsAreaWalk mem word [] = word % 2 ^ 20 ≡ 0
IsAreaWalk mem word (l ∷ ls) =
    (l ≢ 0) × (word % 2 ^ 20 ≡ l) × ((i : ℕ) → i < 64 → is_mapped mem (link_address l + i) ≡ true) × IsAreaWalk mem (area_word mem l 0) ls

-- what the guard law of safety says of code and stores: the n addresses from x on are inside one of
-- the ranges
pub record LiesInRange (ranges : List Range) (x n : ℕ) : Type 0 where
  pub place : ℕ
  pub range : Range
  pub there : slice_get ranges place ≡ Some range
  pub from : range.at ≤ x
  pub to : x + n ≤ range.at + range.len

-- the equations of safety in a state, for its next event: the machine runs, areas are whole, code
-- is in rom, stores are in range
pub record MeetsSafetyEquations (image : ImageData) (plan : PlanData) (most : ℕ) (m : Machine) (e : Event) : Type 0 where
  pub running : m.end ≡ Running
  pub used : List ℕ
  pub free : List ℕ
  pub used_walk : IsAreaWalk m.mem m.pcxi used
  pub free_walk : IsAreaWalk m.mem m.fcx free
  pub count : length used + length free ≡ plan.areas
  pub places : (k : ℕ) → k < plan.areas → slice_index (reverse used ++ free) k ≡ first_link plan + k
  pub within_need : length used ≤ most
  pub code : List ℕ
  pub inst : InstData
  pub spelled : Spells code inst
  pub in_rom : LiesInRange plan.rom m.pc (length code)
  pub held : (i : ℕ) → i < length code → image_byte image (m.pc + i) ≡ Some (slice_index code i)
  pub there : (i : ℕ) → i < length code → bytes.get m.mem (m.pc + i) ≡ Some (slice_index code i)
  pub store : (x n : ℕ) → stored m e ≡ Some (x, n) → (x + n ≤ 2 ^ 32) × (LiesInRange plan.ram x n ⊎ LiesInRange (map (λ d. d.range) plan.devices) x n)

-- guard law: if the image is safe, each state of a run under fitting events meets the equations of
-- safety, with each next event
abbrev pub SafeImpliesEquations : Type 0
SafeImpliesEquations =
    (image : ImageData) (plan : PlanData) (most : ℕ) (states : ℕ → Machine) (events : ℕ → Event) (n : ℕ) (e : Event) → Safe image plan most
    → IsRun states events → Starts image plan (states 0) → ((k : ℕ) → k < n → Fits plan (states k) (events k)) → Fits plan (states n) e
    → MeetsSafetyEquations image plan most (states n) e

-- if no interrupt is taken, and the access is aligned or doesn't trap, a store instruction stores
-- at its address
abbrev pub StoreInstructionStores : Type 0
StoreInstructionStores =
    (m : Machine) (e : Event) (src : ℕ) (base : Arg) (offset size : ℕ) (after : Bool) (n : ℕ) → m.end ≡ Running → is_interrupt_taken m e ≡ false
    → fetched_instruction m ≡ Ok (Store src base offset size after, n) → (e.aln ≡ true → access_address m base offset after % size ≡ 0)
    → stored m e ≡ Some (access_address m base offset after, size)
