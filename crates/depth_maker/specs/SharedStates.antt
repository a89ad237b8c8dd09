-- Points whose instruction only passes the state on: a new successor shares it.
use Rattle.std.specs.Prelude.{◌≡◌, ◌<◌, ℕ, Bool, true, false, ◌∷◌, Some, IfSome, Result, Ok, Err}
use Rattle.elf_image.specs.Images.{ImageData}
use Rattle.tcd_plan.specs.PlanData.{PlanData}
use Rattle.tc_isa.specs.declared.shapes.Shape.{Shape}
use Rattle.tc_isa.specs.InBounds.{IsShapeInBounds}
use Rattle.value_domain.specs.declared.states.State.{State}
use Rattle.value_domain.specs.Limits.{Limits}
use Rattle.depth_cert.specs.declared.keys.Key.{Key}
use Rattle.depth_cert.specs.Known.{state}
use Rattle.cfg_recover.specs.Code.{IsCode, FindsShapeAndSize}
use Rattle.cfg_recover.specs.LocalRules.{LocalRuleHolds}
use Rattle.cfg_recover.specs.Duties.{duties_of, interrupt_duties_of, jump, owed}
use Rattle.frame_places.specs.declared.places.Spot.TheVariants.{Point}
use Rattle.frame_places.specs.declared.refusals.Refusal.{Refusal}
use Rattle.frame_places.specs.Marks.{value_of_place}
use Rattle.depth_maker.specs.Answers.{NamesDerivedFault}
use Rattle.depth_maker.specs.EnteredFrames.{ShapeEntersNoFrame, InstructionEntersNoFrame}
use Rattle.depth_maker.specs.Joins.{JoinsNothing}
use Rattle.depth_maker.specs.VisitDuties.{AreDutiesJoined}
use Rattle.depth_maker.specs.Visits.{VisitJoinsDutiesForInputs}
use Rattle.depth_maker.specs.declared.inputs_and_limits.Site.{Site}
use Rattle.depth_maker.specs.declared.table.Table as made

-- what was located at the point is the shape and size of the instruction there, or none only if no
-- instruction is there
abbrev pub LocatesInstructionIfAny : Site → Type 0
LocatesInstructionIfAny v = FindsShapeAndSize (v.ground.now).image.now (v.ground.now).plan.now v.addr v.located.now

-- the shape that was located at the point, if any, has all its fields in bounds
abbrev pub IsLocatedShapeInBounds : Site → Type 0
IsLocatedShapeInBounds v = IfSome v.located.now (λ found. IsShapeInBounds found.shape)

-- the instruction at p breaks no rule and changes no state: a point there owes the same state at
-- `next`, and interrupts
pub record PassesStateTo (image : ImageData) (plan : PlanData) (p next : ℕ) : Type 0 where
  pub shape : Shape
  pub size : ℕ
  pub code : IsCode image plan p shape size
  pub shaped : IsShapeInBounds shape
  pub local : (b : Limits) (k : Key) (u : State) (r : ℕ) → LocalRuleHolds b plan k p u shape r
  pub duties : (b : Limits) (k : Key) (u : State) → duties_of b image plan k p u shape size ≡ owed 4 (jump next u) ∷ interrupt_duties_of plan k u
  pub enters : ShapeEntersNoFrame plan shape

-- in each state of this point, the entries of all interrupts that may be taken are covered, and
-- CCPN is below 256, so a new successor may share the state
abbrev pub MayShareState : Site → made.Table → Type 0
MayShareState v t =
    (u : State) → value_of_place t.places (Point v.key v.addr) ≡ Some (state u)
    → AreDutiesJoined (v.ground.now).bounds.now (v.ground.now).image.now (v.ground.now).plan.now t t v.key v.addr u (interrupt_duties_of (v.ground.now).plan.now v.key u) × (u.ccpn < 256)

-- the point's duties were joined by sharing its state with its successor; or nothing was joined; or
-- the refusal is right
abbrev pub JoinsBySharing : Site → made.Table → made.Table → Result Bool Refusal → Type 0
JoinsBySharing v s t (Ok true) = VisitJoinsDutiesForInputs v.ground.now s t (Point v.key v.addr) × InstructionEntersNoFrame (v.ground.now).image.now (v.ground.now).plan.now v.addr
JoinsBySharing v s t (Ok false) = JoinsNothing v.ground.now s t
JoinsBySharing v s t (Err e) = NamesDerivedFault v.ground.now e
