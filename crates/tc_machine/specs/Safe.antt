-- Events that fit, and what safe means: the definitions under the headline.
use Rattle.std.specs.Prelude.{◌≡◌, ℕ, ◌+◌, ◌^◌, ◌<◌, ◌≤◌, ◌⊎◌, false, List, ◌∷◌, ◌++◌, length, reverse, slice_index, Some, IfSome, Contains, []}
use Rattle.std.specs.FinMap as map
use Rattle.csa_chain.specs.Chain.{chain}
use Rattle.elf_image.specs.Images.{ImageData, image_byte}
use Rattle.tcd_plan.specs.PlanData.{PlanData}
use Rattle.tc_isa.specs.Insts.{InstData}
use Rattle.tc_isa.specs.Spelling.{Spells}
use Rattle.tc_machine.specs.declared.events.Event.{Event}
use Rattle.tc_machine.specs.declared.events.End.TheVariants.{Running}
use Rattle.tc_machine.specs.declared.state.Machine.{Machine}
use Rattle.tc_machine.specs.Stepping.{step, run, stored, is_interrupt_taken, load_at_pc}
use Rattle.tcd_base.specs.Ranges.{IsInOneRange}
use Rattle.tcd_plan.specs.MappedAddresses.{MayAnswerLoad, IsStoreInRange}
use Rattle.tc_machine.specs.PlanAreas.{plan_areas}
use Rattle.tc_machine.specs.Starting.{Starts}

-- an event that safe runs allow: its interrupt is none or one of the plan's, and if none is taken,
-- a word that is loaded from a peripheral is within that peripheral's bounds
pub record Fits (plan : PlanData) (m : Machine) (e : Event) : Type 0 where
  pub irq : (e.irq ≡ 0) ⊎ Contains plan.irqs e.irq
  pub input : e.input < 2 ^ 32
  pub status : e.status < 2 ^ 8
  pub answers : is_interrupt_taken m e ≡ false → MayAnswerLoad plan e.input (load_at_pc m)

-- each event of the list fits the machine's state before that event
abbrev pub AllFit : PlanData → Machine → List Event → Type 0
AllFit plan m [] = Unit {0}
AllFit plan m (e ∷ es) = Fits plan m e × AllFit plan (step m e) es

-- The areas of the plan, each once, are those of the used list and the free list, and at most
-- `most` are in use.
pub record ChainsAreWhole (plan : PlanData) (most : ℕ) (m : Machine) : Type 0 where
  pub used : List ℕ
  pub free : List ℕ
  pub used_chain : chain m.mem m.pcxi ≡ Some used
  pub free_chain : chain m.mem m.fcx ≡ Some free
  pub areas_partition : reverse used ++ free ≡ plan_areas plan
  pub within_need : length used ≤ most

-- what safe code is, for a machine with pc p: these bytes are in one rom range of the plan, are
-- held by segments of the image, and spell this instruction
pub record SpellsAt (image : ImageData) (plan : PlanData) (p : ℕ) (bytes : List ℕ) (inst : InstData) : Type 0 where
  pub spelled : Spells bytes inst
  pub in_rom : IsInOneRange p (length bytes) plan.rom
  pub held : (i : ℕ) → i < length bytes → image_byte image (p + i) ≡ Some (slice_index bytes i)

-- the machine is at safe code: the bytes at its pc spell an instruction in one rom range, and are
-- the same in its memory and in the image
pub record IsAtCode (image : ImageData) (plan : PlanData) (m : Machine) : Type 0 where
  pub bytes : List ℕ
  pub inst : InstData
  pub spells : SpellsAt image plan m.pc bytes inst
  pub there : (i : ℕ) → i < length bytes → map.get m.mem (m.pc + i) ≡ Some (slice_index bytes i)

-- a state of a run is safe with its next event: running, areas whole, code in rom, store in range
pub record IsSafeAt (image : ImageData) (plan : PlanData) (most : ℕ) (m : Machine) (e : Event) : Type 0 where
  pub running : m.end ≡ Running
  pub chains : ChainsAreWhole plan most m
  pub code_in_rom : IsAtCode image plan m
  pub stores_in_range : IfSome (stored m e) (IsStoreInRange plan)

-- What is safe holds in every run from every start state, under every list of events that fit and
-- every next one. The machine runs, and the areas are the used and the free list, of which at most
-- `most` are in use. The code is in rom, and stores are in range.
abbrev pub Safe : ImageData → PlanData → ℕ → Type 0
Safe image plan most =
    (m : Machine) (es : List Event) (e : Event) → Starts image plan m → AllFit plan m es → Fits plan (run m es) e → IsSafeAt image plan most (run m es) e
