-- What holds of a machine at a point, and what the other instructions of its frame do.
use Rattle.std.proofs.Common.{◌≡◌, ℕ, ◌/◌, ◌*◌, length, true, false, Ok, refl, ap, ◌∙◌, subst}
use Rattle.std.proofs.lemmas.Bool.{false≢true}
use Rattle.csa_chain.specs.ContextWords.{pcpn_of, pie_of}
use Rattle.elf_image.specs.Images.{ImageData}
use Rattle.tcd_plan.specs.PlanData.{PlanData}
use Rattle.tc_isa.specs.declared.shapes.Shape.{Shape}
use Rattle.tc_isa.specs.declared.shapes.Shape.TheVariants.{Load, Store, Rfe, Svlcx, Rslcx, Bisr, Syscall}
use Rattle.tc_isa.specs.InBounds.{IsShapeInBounds}
use Rattle.tc_isa.proofs.ShapeBounds.{shape_is}
use Rattle.tc_machine.specs.declared.events.Event.{Event}
use Rattle.tc_machine.specs.declared.state.Machine.{Machine}
use Rattle.tc_machine.specs.Machine.{a11, if_running}
use Rattle.tc_machine.specs.Instructions.{wrapping_sum, with_pc_advanced, after_instruction, misaligned_access_trap, is_trapping_instruction}
use Rattle.tc_machine.specs.Handlers.{after_trap}
use Rattle.tc_machine.specs.SavesAndRestores.{save, restore}
use Rattle.tc_machine.specs.Fetching.{fetched_instruction}
use Rattle.tc_machine.proofs.Fetched.{fetched-is}
use Rattle.value_domain.specs.declared.states.State.{State}
use Rattle.value_domain.specs.Limits.{Limits}
use Rattle.vd_transfer.specs.Registers.{WritesNoFixedRegister}
use Rattle.vd_transfer.specs.Soundness.{MeetSoundnessPremises}
use Rattle.depth_cert.specs.declared.keys.Key.{Key}
use Rattle.cfg_recover.specs.MovesAreOwed.{IsAtPoint}

module _ {b : Limits} {image : ImageData} {plan : PlanData} {key : Key} {m : Machine} {s : State} {shape : Shape} {n : ℕ} (at : IsAtPoint b image plan key m s shape n) where
  -- the premises of the laws of effects
  pub setting : MeetSoundnessPremises b plan s
  setting = record { limits = at.limits; plan = at.is_plan; regs = at.regs; values = at.values }

  pub bounded : IsShapeInBounds shape
  bounded = subst IsShapeInBounds at.code.shaped (shape_is at.code.inst at.code.spells.spelled.inst)

  pub writes : WritesNoFixedRegister shape
  writes = (at.own 13).writes refl

  -- the instruction of the point is what the machine fetches
  pub fetched_at : fetched_instruction m ≡ Ok (shape, n)
  fetched_at =
      fetched-is image at.is_plan m at.rom at.code.even at.code.bytes at.code.inst at.code.spells
      ∙ ap (λ (t : Shape). Ok (t, length at.code.bytes)) at.code.shaped ∙ ap (λ (k : ℕ). Ok (shape, k)) at.code.sized

-- ---- instructions on contexts
module _ (m : Machine) (e : Event) (n : ℕ) where
  pub does-rfe : after_instruction m e Rfe n ≡ if_running (restore m true) (λ r. record r { pc = a11 m / 2 * 2; ie = pie_of m.core m.pcxi; ccpn = pcpn_of m.core m.pcxi })
  unfolding after_instruction
  does-rfe = refl

  pub does-svlcx : after_instruction m e Svlcx n ≡ if_running (save m false) (with_pc_advanced n)
  unfolding after_instruction
  does-svlcx = refl

  pub does-rslcx : after_instruction m e Rslcx n ≡ if_running (restore m false) (with_pc_advanced n)
  unfolding after_instruction
  does-rslcx = refl

  pub does-bisr : (c : ℕ) → after_instruction m e (Bisr c) n ≡ if_running (save m false) (λ s. record (with_pc_advanced n s) { ccpn = c; ie = true })
  unfolding after_instruction
  does-bisr c = refl

  pub does-syscall : (tin : ℕ) → after_instruction m e (Syscall tin) n ≡ after_trap m 6 tin (wrapping_sum m.pc n)
  unfolding after_instruction
  does-syscall tin = refl

  -- an access that traps does nothing else
  pub does-trapped : (shape : Shape) → is_trapping_instruction m e shape ≡ true → after_instruction m e shape n ≡ misaligned_access_trap m
  unfolding after_instruction
  does-trapped (Load dst base offset size signed after) t = rw t refl
  does-trapped (Store src base offset size after) t = rw t refl
  does-trapped shape t = absurd (false≢true t)
