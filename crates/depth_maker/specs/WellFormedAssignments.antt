-- Assignments and duties at the limits and without faults.
use Rattle.std.specs.Prelude.{◌≡◌, ℕ, Some, Contains}
use Rattle.elf_image.specs.Images.{ImageData}
use Rattle.tcd_plan.specs.PlanData.{PlanData}
use Rattle.tc_isa.specs.declared.shapes.Shape.{Shape}
use Rattle.value_domain.specs.declared.states.State.{State}
use Rattle.value_domain.specs.Limits.{Limits}
use Rattle.depth_cert.specs.declared.keys.Key.{Key}
use Rattle.depth_cert.specs.declared.points.Exit.{Exit}
use Rattle.cfg_recover.specs.Code.{IsCode}
use Rattle.depth_cert.specs.Exits.{state_after_return}
use Rattle.cfg_recover.specs.LocalFaults.{IsFaultless}
use Rattle.cfg_recover.specs.Duties.{Owed, duties_of, Duty, jump, enter, resume, leave}
use Rattle.cfg_recover.specs.Assignments.{Place, Assignment}
use Rattle.depth_cert.specs.Known.{Known}
use Rattle.depth_cert.specs.WellFormed.{IsWellFormedState, IsWellFormedExit, IsWellFormedKnown}
use Rattle.depth_maker.specs.DutiesMonotone.{AreMakerInputs}

-- each state and exit that an assignment knows is well-formed within these limits
abbrev pub AllWellFormed : Limits → Assignment → Type 0
AllWellFormed b a = (y : Place) (v : Known) → a y ≡ Some v → IsWellFormedKnown b v

-- the state or exit that a duty asks for is well-formed within these limits
abbrev pub IsWellFormedDuty : Limits → Duty → Type 0
IsWellFormedDuty b (jump q t) = IsWellFormedState b t
IsWellFormedDuty b (enter k t) = IsWellFormedState b t
IsWellFormedDuty b (resume k q) = Unit {0}
IsWellFormedDuty b (leave x) = IsWellFormedExit b x

-- the duties of a faultless point with a well-formed state ask for well-formed states and exits
abbrev pub DutiesAreWellFormed : Type 0
DutiesAreWellFormed =
    (b : Limits) (image : ImageData) (plan : PlanData) (key : Key) (p : ℕ) (s : State) (shape : Shape) (n : ℕ) (d : Owed) → AreMakerInputs b image plan
    → IsWellFormedState b s → IsFaultless b image plan key p s → IsCode image plan p shape n → Contains (duties_of b image plan key p s shape n) d → IsWellFormedDuty b d.duty

-- law of the maker: the state after a return is well-formed if the caller's state and the exit are
abbrev pub ReturnStatesAreWellFormed : Type 0
ReturnStatesAreWellFormed = (b : Limits) (s : State) (x : Exit) (kind : ℕ) → IsWellFormedState b s → IsWellFormedExit b x → IsWellFormedState b (state_after_return s x kind)
