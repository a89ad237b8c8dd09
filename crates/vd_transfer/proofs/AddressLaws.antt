-- Instructions without an access have any address.
use Rattle.std.proofs.Common.{◌≡◌, ℕ, Bool, refl}
use Rattle.tcd_plan.specs.PlanData.{PlanData}
use Rattle.tc_isa.specs.declared.shapes.Arg.{Arg}
use Rattle.tc_isa.specs.declared.shapes.Shape.{Shape}
use Rattle.tc_isa.specs.declared.shapes.Shape.TheVariants.{Load, Store}
use Rattle.value_domain.specs.declared.states.State.{State}
use Rattle.value_domain.specs.Limits.{Limits}
use Rattle.value_domain.specs.Values.{any_val}
use Rattle.vd_transfer.specs.EffectsOnStates.{address_of_access}

pub address_none : (b : Limits) (p : PlanData) (shape : Shape) (s : State) → ((dst : ℕ) (base : Arg) (offset size : ℕ) (signed after : Bool) → shape ≡ Load dst base offset size signed after → ⊥)
    → ((src : ℕ) (base : Arg) (offset size : ℕ) (after : Bool) → shape ≡ Store src base offset size after → ⊥) → any_val ≡ address_of_access b p shape s
unfolding address_of_access
address_none b p (Load dst base offset size signed after) s load store = absurd (load dst base offset size signed after refl)
address_none b p (Store src base offset size after) s load store = absurd (store src base offset size after refl)
address_none b p _ s load store = refl
