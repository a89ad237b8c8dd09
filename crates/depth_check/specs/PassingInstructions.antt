-- Instructions that only pass the state on.
use Rattle.std.specs.Prelude.{◌≡◌, ℕ, Some}
use Rattle.elf_image.specs.Images.{ImageData}
use Rattle.tcd_plan.specs.PlanData.{PlanData}
use Rattle.tc_isa.specs.declared.shapes.Shape.{Shape}
use Rattle.tc_isa.specs.declared.shapes.Shape.TheVariants.{Jump, Nothing}
use Rattle.tc_machine.specs.Instructions.{wrapping_sum}
use Rattle.cfg_recover.specs.Code.{IsCode}
use Rattle.cfg_recover.specs.LocalRules.{direct_target}

-- an instruction of this shape and n bytes at p is a nop or a direct jump: nothing changes, and
-- `next` is the only successor
abbrev pub IsNopOrJump : ℕ → Shape → ℕ → ℕ → Type 0
IsNopOrJump p Nothing n next = wrapping_sum p n ≡ next
IsNopOrJump p (Jump to) n next = direct_target p to ≡ Some next
IsNopOrJump p _ n next = ⊥

-- the instruction at p is a nop or a direct jump: nothing changes, and `next` is the only successor
pub record HasNopOrJump (image : ImageData) (plan : PlanData) (p next : ℕ) : Type 0 where
  pub shape : Shape
  pub size : ℕ
  pub code : IsCode image plan p shape size
  pub passes : IsNopOrJump p shape size next
