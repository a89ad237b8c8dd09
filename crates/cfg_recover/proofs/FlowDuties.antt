-- The interrupts' part of a Flow's duties.
use Rattle.std.proofs.Common.{◌≡◌, ℕ, Bool, true, false, List, ap, refl, sym, ◌∙◌}
use Rattle.elf_image.specs.Images.{ImageData}
use Rattle.tcd_plan.specs.PlanData.{PlanData}
use Rattle.tc_isa.specs.Insts.{InstData}
use Rattle.tc_isa.specs.Meanings.{shape_of}
use Rattle.value_domain.specs.Limits.{Limits}
use Rattle.vd_transfer.specs.EffectsOnStates.{LocalsFitInstruction}
use Rattle.cfg_recover.specs.LocalFaults.{IsFaultlessInst}
use Rattle.value_domain.specs.declared.states.State.{State}
use Rattle.vd_transfer.specs.Registers.{register_slot}
use Rattle.depth_cert.specs.declared.keys.Key.{Key}
use Rattle.cfg_recover.specs.Entries.{irq_entry, possible_irqs_of}
use Rattle.cfg_recover.specs.Duties.{interrupt_duties_of}
use Rattle.cfg_recover.specs.FlowDuties.{duties_of_irqs}

-- the state at an interrupt's entry is that of priority 0 with another priority
pub duties_of_irqs-is : (plan : PlanData) (key : Key) (s entry : State) (irqs : List ℕ) → entry ≡ irq_entry plan key s 0 → irqs ≡ possible_irqs_of plan s → duties_of_irqs plan entry irqs ≡ interrupt_duties_of plan key s
unfolding register_slot
duties_of_irqs-is plan key s entry irqs e f = ap (λ (t : State). duties_of_irqs plan t irqs) e ∙ ap (λ (l : List ℕ). duties_of_irqs plan (irq_entry plan key s 0) l) f

-- two tests with the same answers are equal
pub same_test : (a b : Bool) → (a ≡ true → b ≡ true) → (b ≡ true → a ≡ true) → a ≡ b
same_test true b there back = sym (there refl)
same_test false true there back = back refl
same_test false false there back = refl

-- if K8's own part holds, there is room
pub room_of : (b : Limits) (image : ImageData) (plan : PlanData) (key : Key) (p : ℕ) (s : State) (found : InstData × ℕ) → IsFaultlessInst b image plan key p s found → LocalsFitInstruction b (shape_of found.0) s
room_of b image plan key p s found f = ((f.faultless 8).own (shape_of found.0) found.1 f.code).room refl
