-- The duties of a point grow with its state, and its faults get fewer with a smaller one.
use Rattle.std.specs.Prelude.{◌≡◌, ℕ, Bool, Contains, Some}
use Rattle.elf_image.specs.Images.{ImageData, IsImage}
use Rattle.tcd_plan.specs.PlanData.{PlanData, IsPlan}
use Rattle.tc_isa.specs.declared.shapes.Arg.{Arg}
use Rattle.tc_isa.specs.declared.shapes.Cond.{Cond}
use Rattle.tc_isa.specs.declared.shapes.Shape.{Shape}
use Rattle.tc_isa.specs.declared.shapes.Shape.TheVariants.{Branch}
use Rattle.tc_isa.specs.InBounds.{IsShapeInBounds}
use Rattle.value_domain.specs.declared.values.Val.{Val}
use Rattle.value_domain.specs.Values.{IsBelow}
use Rattle.vd_transfer.specs.EffectsOnStates.{transfer_of, address_of_access}
use Rattle.vd_transfer.specs.Branches.{refine_of}
use Rattle.vd_transfer.specs.Soundness.{MeetSoundnessPremises}
use Rattle.value_domain.specs.declared.states.State.{State}
use Rattle.value_domain.specs.Limits.{Limits, AreLimits}
use Rattle.value_domain.specs.State.{Covers}
use Rattle.depth_cert.specs.declared.keys.Key.{Key}
use Rattle.depth_cert.specs.declared.points.Exit.{Exit}
use Rattle.cfg_recover.specs.Code.{IsCode}
use Rattle.depth_cert.specs.Exits.{state_after_return, ExitCovers}
use Rattle.cfg_recover.specs.LocalFaults.{IsFaultless}
use Rattle.cfg_recover.specs.Duties.{Duty, jump, enter, resume, leave, Owed, duties_of}
use Rattle.depth_cert.specs.WellFormed.{IsWellFormedState, IsWellFormedExit}

-- two duties ask for something at the same place, and the first for no more than the second
abbrev pub IsDutyBelow : Duty → Duty → Type 0
IsDutyBelow (jump q t) (jump r u) = (q ≡ r) × Covers u t
IsDutyBelow (jump q t) (enter j u) = ⊥
IsDutyBelow (jump q t) (resume j r) = ⊥
IsDutyBelow (jump q t) (leave y) = ⊥
IsDutyBelow (enter k t) (jump r u) = ⊥
IsDutyBelow (enter k t) (enter j u) = (k ≡ j) × Covers u t
IsDutyBelow (enter k t) (resume j r) = ⊥
IsDutyBelow (enter k t) (leave y) = ⊥
IsDutyBelow (resume k q) (jump r u) = ⊥
IsDutyBelow (resume k q) (enter j u) = ⊥
IsDutyBelow (resume k q) (resume j r) = (k ≡ j) × (q ≡ r)
IsDutyBelow (resume k q) (leave y) = ⊥
IsDutyBelow (leave x) (jump r u) = ⊥
IsDutyBelow (leave x) (enter j u) = ⊥
IsDutyBelow (leave x) (resume j r) = ⊥
IsDutyBelow (leave x) (leave y) = ExitCovers y x

-- two duties are for the same rule, and the first asks for no more than the second
pub record IsOwedBelow (d e : Owed) : Type 0 where
  pub rule : d.rule ≡ e.rule
  pub duty : IsDutyBelow d.duty e.duty

-- the maker's inputs are well-formed: the limits of values, the image and the plan
pub record AreMakerInputs (b : Limits) (image : ImageData) (plan : PlanData) : Type 0 where
  pub limits : AreLimits b
  pub is_plan : IsPlan plan
  pub is_image : IsImage image

-- faults are monotone in the state: a point without a fault of its own has none with a smaller
-- state
abbrev pub FaultsAreMonotone : Type 0
FaultsAreMonotone =
    (b : Limits) (image : ImageData) (plan : PlanData) (key : Key) (p : ℕ) (s t : State) → AreMakerInputs b image plan → IsWellFormedState b s → IsWellFormedState b t → Covers t s
    → IsFaultless b image plan key p t → IsFaultless b image plan key p s

-- duties are monotone in the state: each one with a smaller state asks for no more than one with
-- the larger
abbrev pub DutiesAreMonotone : Type 0
DutiesAreMonotone =
    (b : Limits) (image : ImageData) (plan : PlanData) (key : Key) (p : ℕ) (s t : State) (shape : Shape) (n : ℕ) (d : Owed) → AreMakerInputs b image plan
    → IsWellFormedState b s → IsWellFormedState b t → Covers t s → IsFaultless b image plan key p t → IsCode image plan p shape n
    → Contains (duties_of b image plan key p s shape n) d → (e : Owed) × Contains (duties_of b image plan key p t shape n) e × IsOwedBelow d e

-- the state after a return is monotone in the caller's state and in the exit
abbrev pub ReturnStatesAreMonotone : Type 0
ReturnStatesAreMonotone =
    (b : Limits) (s t : State) (x y : Exit) (kind : ℕ) → IsWellFormedState b s → IsWellFormedState b t → IsWellFormedExit b x → IsWellFormedExit b y → Covers t s → ExitCovers y x
    → Covers (state_after_return t y kind) (state_after_return s x kind)

-- ---- effects
-- transfer functions are monotone: the state after an instruction grows with the one before and
-- with the loaded value
abbrev pub TransfersAreMonotone : Type 0
TransfersAreMonotone =
    (b : Limits) (plan : PlanData) (s t : State) (shape : Shape) (v w : Val) → MeetSoundnessPremises b plan s → MeetSoundnessPremises b plan t → Covers t s → IsShapeInBounds shape → IsBelow v w
    → Covers (transfer_of b plan shape t w) (transfer_of b plan shape s v)

-- addresses are monotone in the state: those of an instruction's access grow with the state before
abbrev pub AddressesAreMonotone : Type 0
AddressesAreMonotone =
    (b : Limits) (plan : PlanData) (s t : State) (shape : Shape) → MeetSoundnessPremises b plan s → MeetSoundnessPremises b plan t → Covers t s → IsShapeInBounds shape
    → IsBelow (address_of_access b plan shape s) (address_of_access b plan shape t)

-- refinement by branches is monotone: a side that is possible is possible with a larger state, and
-- leads to a larger state
abbrev pub BranchSidesAreMonotone : Type 0
BranchSidesAreMonotone =
    (b : Limits) (plan : PlanData) (s t u : State) (test : Cond) (x : ℕ) (y : Arg) (by : ℕ) (lowers side : Bool) → MeetSoundnessPremises b plan s → MeetSoundnessPremises b plan t → Covers t s
    → IsShapeInBounds (Branch test x y by lowers) → refine_of b plan (Branch test x y by lowers) s side ≡ Some u
    → (w : State) × (refine_of b plan (Branch test x y by lowers) t side ≡ Some w) × Covers w u
