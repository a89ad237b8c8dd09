-- Instructions that leave a state as it is.
use Rattle.std.proofs.Common.{◌≡◌, ℕ, Bool, true, false, not, refl}
use Rattle.std.specs.Prelude.{IsTrue}
use Rattle.tcd_plan.specs.PlanData.{PlanData}
use Rattle.tc_isa.specs.declared.shapes.Arg.{Arg}
use Rattle.tc_isa.specs.declared.shapes.Arg.TheVariants.{Reg, Word}
use Rattle.tc_isa.specs.declared.shapes.Shape.TheVariants.{Store, Nothing}
use Rattle.value_domain.specs.declared.values.Val.{Val}
use Rattle.value_domain.specs.declared.states.State.{State}
use Rattle.value_domain.specs.Limits.{Limits}
use Rattle.vd_transfer.specs.EffectsOnStates.{transfer_of}

-- an instruction that changes nothing
pub nothing_keeps : (b : Limits) (plan : PlanData) (s : State) (v : Val) → transfer_of b plan Nothing s v ≡ s
unfolding transfer_of
nothing_keeps b plan s v = refl

-- a store that leaves its base as it is
pub store_keeps : (b : Limits) (plan : PlanData) (s : State) (v : Val) (src : ℕ) (base : Arg) (offset size : ℕ) (after : Bool) → IsTrue (not after) → transfer_of b plan (Store src base offset size after) s v ≡ s
unfolding transfer_of
store_keeps b plan s v src (Reg r) offset size false t = refl
store_keeps b plan s v src (Word w) offset size false t = refl
store_keeps b plan s v src base offset size true t = absurd (let f : false ≡ true = t in cc)
