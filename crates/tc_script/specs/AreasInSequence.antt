-- Areas in use that are consecutive, and the effects of events on them.
use Rattle.std.specs.Prelude.{◌≡◌, ◌≢◌, ℕ, zero, suc, ◌+◌, ◌-◌, ◌<◌, ◌≤◌, ◌^◌, Bool, true, List, [], ◌∷◌, Some, unwrap_or}
use Rattle.std.specs.Bool.{OnTrue}
use Rattle.csa_chain.specs.MemoryBytes.{with_bytes}
use Rattle.csa_chain.specs.Chain.{link_in, is_area_mapped, chain}
use Rattle.tc_isa.specs.declared.shapes.Shape.{Shape}
use Rattle.tc_machine.specs.declared.events.Event.{Event}
use Rattle.tc_machine.specs.declared.events.End.TheVariants.{Running}
use Rattle.tc_machine.specs.declared.state.Machine.{Machine}
use Rattle.tc_machine.specs.Instructions.{after_instruction}
use Rattle.tc_machine.specs.SavesAndRestores.{with_context_saved, with_context_restored}
use Rattle.tc_machine.specs.Stepping.{used_area_count}
use Rattle.tc_script.specs.declared.area_counts.AreasUsed.{AreasUsed}
use Rattle.tc_script.specs.declared.area_counts.Effect.{Effect}
use Rattle.tc_script.specs.declared.area_counts.Effect.TheVariants.{Stays, Saves, Restores, Unknown}

-- the links of n consecutive areas from link `first` on, in descending order, as a chain has them
abbrev pub links_in_sequence : ℕ → ℕ → List ℕ
links_in_sequence first zero = []
links_in_sequence first (suc n) = (first + n) ∷ links_in_sequence first n

-- the areas in use are n consecutive ones
abbrev pub AreAreasInSequence : ℕ → ℕ → Machine → Type 0
AreAreasInSequence first n m = chain m.mem m.pcxi ≡ Some (links_in_sequence first n)

-- the count says that the areas in use are consecutive
abbrev pub KnowsAreasInSequence : AreasUsed → Type 0
KnowsAreasInSequence u = u.in_row ≡ true

-- this number of areas is in use, and they are consecutive if the count says so
pub record CountsAreasInUse (u : AreasUsed) (m : Machine) : Type 0 where
  pub count : u.count ≡ unwrap_or (used_area_count m) 0
  pub first : u.first < 2 ^ 20
  pub row : OnTrue u.in_row (AreAreasInSequence u.first u.count m)

-- an event adds an area to those in use, which a script's run counts: afterwards the memory and
-- PCXI are those of a save of a context
pub record SavesContext (m after : Machine) : Type 0 where
  pub upper : Bool
  pub some : link_in m.fcx ≢ 0
  pub area : is_area_mapped m.mem (link_in m.fcx) ≡ true
  pub mem : after.mem ≡ (with_context_saved m upper).mem
  pub pcxi : after.pcxi ≡ (with_context_saved m upper).pcxi

-- an event frees the newest of the consecutive areas in use: afterwards the memory and PCXI are
-- those of a restore of a context
pub record RestoresContext (m after : Machine) : Type 0 where
  pub upper : Bool
  pub some : link_in m.pcxi ≢ 0
  pub mem : after.mem ≡ (with_context_restored m upper).mem
  pub pcxi : after.pcxi ≡ (with_context_restored m upper).pcxi

-- an event acts on the consecutive areas in use as a store does: afterwards the memory is that of a
-- store of `size` bytes at x, and PCXI is as it was
pub record StoresBytes (x size : ℕ) (m after : Machine) : Type 0 where
  pub word : ℕ
  pub mem : after.mem ≡ with_bytes m.mem x word size
  pub pcxi : after.pcxi ≡ m.pcxi

-- an event leaves the consecutive areas in use as they are: the machine has the memory and PCXI of
-- the one before
pub record KeepsMemoryAndPcxi (m after : Machine) : Type 0 where
  pub mem : after.mem ≡ m.mem
  pub pcxi : after.pcxi ≡ m.pcxi

-- what an effect says of the areas in use after an event is true: as u counts them before, one
-- more, one less, or nothing
abbrev pub AreaEffectHolds : Effect → AreasUsed → Machine → Type 0
AreaEffectHolds Stays u after = CountsAreasInUse u after
AreaEffectHolds Saves u after = (u.count < 4096) × CountsAreasInUse (record u { count = u.count + 1 }) after
AreaEffectHolds Restores u after = (1 ≤ u.count) × CountsAreasInUse (record u { count = u.count - 1 }) after
AreaEffectHolds Unknown u after = Unit {0}

-- the effect is true of the areas in use after an instruction of this shape, if the machine then
-- runs
abbrev pub IsAreaEffectOf : Effect → AreasUsed → Machine → Event → Shape → Type 0
IsAreaEffectOf effect u m e shape = (n : ℕ) → (after_instruction m e shape n).end ≡ Running → AreaEffectHolds effect u (after_instruction m e shape n)
