-- The frames that duties enter.
use Rattle.std.specs.Prelude.{◌≡◌, ℕ, []}
use Rattle.tcd_plan.specs.PlanData.{PlanData}
use Rattle.tc_isa.specs.declared.shapes.Shape.{Shape}
use Rattle.value_domain.specs.Limits.{Limits}
use Rattle.value_domain.specs.declared.states.State.{State}
use Rattle.depth_cert.specs.declared.keys.Key.{Key}
use Rattle.cfg_recover.specs.Code.{IsCode}
use Rattle.cfg_recover.specs.LocalRules.{LocalRuleHolds}
use Rattle.elf_image.specs.Images.{ImageData}
use Rattle.tc_isa.specs.InBounds.{IsShapeInBounds}
use Rattle.frame_places.specs.declared.places.Spot.{Spot}
use Rattle.frame_places.specs.declared.places.Spot.TheVariants.{Point, Exit}
use Rattle.cfg_recover.specs.Duties.{entry_duties_of, misaligned_duties_of, entered_keys}

-- where K10 holds, an instruction of this shape owes no entry of a frame, whatever the state;
-- interrupts apart
abbrev pub ShapeEntersNoFrame : PlanData → Shape → Type 0
ShapeEntersNoFrame plan shape =
    (b : Limits) (k : Key) (p : ℕ) (u : State) (n : ℕ) → LocalRuleHolds b plan k p u shape 10 → (entered_keys (entry_duties_of plan k p u shape n) ≡ []) × (entered_keys (misaligned_duties_of b plan k u shape) ≡ [])

-- the instruction at this address enters no frame by a call, a system call or a misaligned access,
-- whatever the state
pub record InstructionEntersNoFrame (image : ImageData) (plan : PlanData) (p : ℕ) : Type 0 where
  pub shape : Shape
  pub size : ℕ
  pub code : IsCode image plan p shape size
  pub shaped : IsShapeInBounds shape
  pub enters : ShapeEntersNoFrame plan shape

-- the instruction at a place enters no frame by a call, system call or misaligned access; an exit
-- has no instruction
abbrev pub PlaceEntersNoFrame : ImageData → PlanData → Spot → Type 0
PlaceEntersNoFrame image plan (Point k p) = InstructionEntersNoFrame image plan p
PlaceEntersNoFrame image plan (Exit k) = Unit {0}
