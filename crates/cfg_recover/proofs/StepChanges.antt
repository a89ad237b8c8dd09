-- What an instruction uses of the value that was loaded.
use Rattle.std.proofs.Common.{◌≡◌, ℕ, Bool, refl, sym, subst}
use Rattle.elf_image.specs.Images.{ImageData}
use Rattle.tcd_plan.specs.PlanData.{PlanData}
use Rattle.tc_isa.specs.declared.shapes.Arg.{Arg}
use Rattle.tc_isa.specs.declared.shapes.Shape.{Shape}
use Rattle.tc_isa.specs.declared.shapes.Shape.TheVariants.{Load, Nothing}
use Rattle.value_domain.specs.declared.values.Val.{Val}
use Rattle.value_domain.specs.declared.states.State.{State}
use Rattle.value_domain.specs.Limits.{Limits}
use Rattle.value_domain.specs.Values.{any_val}
use Rattle.vd_transfer.specs.EffectsOnStates.{transfer_of}
use Rattle.cfg_recover.specs.Duties.{value_loaded_by_shape}

-- an instruction that isn't a load
abbrev pub LoadsNone : Shape → Type 0
LoadsNone shape = (dst : ℕ) (base : Arg) (offset size : ℕ) (signed after : Bool) → shape ≡ Load dst base offset size signed after → ⊥

-- other instructions don't use what was loaded
pub writes_none : (b : Limits) (p : PlanData) (s : State) (shape : Shape) (v w : Val) → LoadsNone shape → transfer_of b p shape s v ≡ transfer_of b p shape s w
unfolding transfer_of
writes_none b p s (Load dst base offset size signed after) v w other = absurd (other dst base offset size signed after refl)
writes_none b p s _ v w other = refl

pub any_loaded : (b : Limits) (image : ImageData) (p : PlanData) (s : State) (shape : Shape) → LoadsNone shape → any_val ≡ value_loaded_by_shape b image p s shape
any_loaded b image p s (Load dst base offset size signed after) other = absurd (other dst base offset size signed after refl)
any_loaded b image p s _ other = refl

-- an instruction that changes nothing keeps the state
pub nothing_keeps : (b : Limits) (image : ImageData) (p : PlanData) (s : State) (shape : Shape) → shape ≡ Nothing → s ≡ transfer_of b p shape s (value_loaded_by_shape b image p s shape)
unfolding transfer_of
nothing_keeps b image p s shape is = subst (λ (x : Shape). s ≡ transfer_of b p x s (value_loaded_by_shape b image p s x)) (sym is) refl
