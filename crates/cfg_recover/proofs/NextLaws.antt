-- The instructions whose only successor in the frame is the next instruction.
use Rattle.std.proofs.Common.{◌≡◌, ℕ, Bool, refl}
use Rattle.tcd_plan.specs.PlanData.{PlanData}
use Rattle.elf_image.specs.Images.{ImageData}
use Rattle.tc_isa.specs.declared.shapes.Arg.{Arg}
use Rattle.tc_isa.specs.declared.shapes.Cond.{Cond}
use Rattle.tc_isa.specs.declared.shapes.Target.{Target}
use Rattle.tc_isa.specs.declared.shapes.Shape.{Shape}
use Rattle.tc_isa.specs.declared.shapes.Shape.TheVariants.{Branch, Jump, Call, Ret, Rfe, Syscall, Mtcr}
use Rattle.value_domain.specs.declared.states.State.{State}
use Rattle.value_domain.specs.Limits.{Limits}
use Rattle.cfg_recover.specs.Duties.{successor_duties_of, next_duty_of}

-- all except branches, jumps, calls, returns, system calls and MTCR
pub next_alone : (b : Limits) (image : ImageData) (plan : PlanData) (p : ℕ) (s : State) (shape : Shape) (n : ℕ)
    → ((cond : Cond) (x : ℕ) (y : Arg) (by : ℕ) (lowers : Bool) → shape ≡ Branch cond x y by lowers → ⊥) → ((to : Target) → shape ≡ Jump to → ⊥)
    → ((to : Target) → shape ≡ Call to → ⊥) → (shape ≡ Ret → ⊥) → (shape ≡ Rfe → ⊥) → ((tin : ℕ) → shape ≡ Syscall tin → ⊥)
    → ((src number : ℕ) → shape ≡ Mtcr src number → ⊥) → successor_duties_of b image plan p s shape n ≡ next_duty_of b image plan p s shape n
next_alone b image plan p s (Branch cond x y by lowers) n branch jump call ret rfe sys mtcr = absurd (branch cond x y by lowers refl)
next_alone b image plan p s (Jump to) n branch jump call ret rfe sys mtcr = absurd (jump to refl)
next_alone b image plan p s (Call to) n branch jump call ret rfe sys mtcr = absurd (call to refl)
next_alone b image plan p s Ret n branch jump call ret rfe sys mtcr = absurd (ret refl)
next_alone b image plan p s Rfe n branch jump call ret rfe sys mtcr = absurd (rfe refl)
next_alone b image plan p s (Syscall tin) n branch jump call ret rfe sys mtcr = absurd (sys tin refl)
next_alone b image plan p s (Mtcr src number) n branch jump call ret rfe sys mtcr = absurd (mtcr src number refl)
next_alone b image plan p s _ n branch jump call ret rfe sys mtcr = refl
