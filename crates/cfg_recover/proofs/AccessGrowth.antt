-- Addresses and values grow with the state.
use Rattle.std.proofs.Common.{◌≡◌, ℕ, ◌^◌, ◌<◌, Bool, true, false, Option, Some, None, refl, arith}
use Rattle.tcd_plan.specs.PlanData.{PlanData}
use Rattle.tc_isa.specs.declared.shapes.Arg.{Arg}
use Rattle.tc_isa.specs.declared.shapes.Arg.TheVariants.{Reg, Word}
use Rattle.tc_isa.specs.declared.shapes.Op.TheVariants.{Add}
use Rattle.tc_isa.specs.InBounds.{IsArgInBounds}
use Rattle.value_domain.specs.declared.states.State.{State}
use Rattle.value_domain.specs.Limits.{Limits}
use Rattle.value_domain.specs.Values.{IsBelow}
use Rattle.value_domain.specs.State.{Covers}
use Rattle.vd_transfer.specs.Registers.{register_slot, arg_of, register_value_at}
use Rattle.vd_transfer.specs.EffectsOnStates.{address_by_mode}
use Rattle.vd_transfer.specs.Soundness.{MeetSoundnessPremises}
use Rattle.vd_transfer.proofs.SlotLaws.{slot_is}
use Rattle.vd_transfer.proofs.HoldLaws.{arg_value}
use Rattle.vd_transfer.proofs.OpLaws.{monotone}

module _ (b : Limits) (p : PlanData) (s t : State) (low : MeetSoundnessPremises b p s) (high : MeetSoundnessPremises b p t) (c : Covers t s) where
  pub value_grows : (r : ℕ) (o : Option ℕ) → register_slot r ≡ o → IsBelow (register_value_at p s r o) (register_value_at p t r o)
  value_grows r None e = λ x m. m
  value_grows r (Some i) e = c.regs i (let within = (slot_is r i e).within in let all = low.regs in omega arith)

  pub arg_grows : (y : Arg) → IsBelow (arg_of p s y) (arg_of p t y)
  arg_grows (Reg r) = value_grows r (register_slot r) refl
  arg_grows (Word w) = λ x m. m

  pub access_grows : (base : Arg) (offset : ℕ) (after : Bool) → IsArgInBounds base → offset < 2 ^ 32 → IsBelow (address_by_mode b p s base offset after) (address_by_mode b p t base offset after)
  access_grows base offset true is small = arg_grows base
  access_grows base offset false is small =
      monotone b Add (arg_of p s base) (arg_of p s (Word offset)) (arg_of p t base) (arg_of p t (Word offset)) low.limits (arg_value b p s base low is) (arg_value b p s (Word offset) low small) (arg_value b p t base high is)
      (arg_value b p t (Word offset) high small) (arg_grows base) (λ x m. m)
