-- The rules that ask for duties are 4 to 12.
use Rattle.std.proofs.Common.{ℕ, ◌≤◌, arith, Contains}
use Rattle.elf_image.specs.Images.{ImageData}
use Rattle.tcd_plan.specs.PlanData.{PlanData}
use Rattle.tc_isa.specs.declared.shapes.Shape.{Shape}
use Rattle.value_domain.specs.declared.states.State.{State}
use Rattle.value_domain.specs.Limits.{Limits}
use Rattle.depth_cert.specs.declared.keys.Key.{Key}
use Rattle.cfg_recover.specs.Duties.{Owed, duties_of}
use Rattle.cfg_recover.proofs.DutyView.{DutyAt, returns, duty_at}

module _ (b : Limits) (image : ImageData) (plan : PlanData) (key : Key) (p : ℕ) (s : State) (n : ℕ) where
  asked_by : (shape : Shape) (d : Owed) → DutyAt b image plan key p s n shape d → (4 ≤ d.rule) × (d.rule ≤ 12)
  asked_by _ _ returns = (omega arith, omega arith)
  asked_by _ _ _ = (omega arith, omega arith)

  -- one of K4 to K12 asks for each duty of a point
  pub duty_asked : (shape : Shape) (d : Owed) → Contains (duties_of b image plan key p s shape n) d → (4 ≤ d.rule) × (d.rule ≤ 12)
  duty_asked shape d c = asked_by shape d (duty_at b image plan key p s n shape d c)
