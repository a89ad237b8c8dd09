-- What the visited point owes, and what of it was joined.
use Rattle.std.specs.Prelude.{◌≡◌, ℕ, Bool, false, Option, Some, List, ◌∷◌, Contains, map, unwrap_or, []}
use Rattle.std.specs.List.{flat_map}
use Rattle.elf_image.specs.Images.{ImageData}
use Rattle.tcd_plan.specs.PlanData.{PlanData}
use Rattle.value_domain.specs.declared.states.State.{State}
use Rattle.value_domain.specs.Limits.{Limits}
use Rattle.depth_cert.specs.declared.keys.Key.{Key}
use Rattle.tc_isa.specs.declared.shapes.Shape.{Shape}
use Rattle.tc_isa.specs.declared.shapes.Target.{Target}
use Rattle.vd_transfer.specs.Branches.{refine_of}
use Rattle.vd_transfer.specs.EffectsOnStates.{transfer_of}
use Rattle.cfg_recover.specs.declared.local_rules.Located.{Located}
use Rattle.cfg_recover.specs.LocalFaults.{IsFaultlessShape, IsFaultless}
use Rattle.cfg_recover.specs.LocalRules.{targets_of}
use Rattle.cfg_recover.specs.Code.{IsCode}
use Rattle.cfg_recover.specs.Entries.{call_key, call_entry, sys_key, sys_entry}
use Rattle.cfg_recover.specs.Duties.{Duty, Owed, duties_of, entry_and_return, entry_duties_of, interrupt_duties_of, branch_duty, value_loaded_by_shape, misaligned_entry, misaligned_duties_of, next_duty_of, owed, successor_duties_of, enter, resume}
use Rattle.cfg_recover.specs.Assignments.{AssignmentCovers, point}
use Rattle.depth_cert.specs.Known.{Known, state}
use Rattle.depth_cert.specs.WellFormed.{IsWellFormedKnown}
use Rattle.depth_maker.specs.TableView.{view_of_table}
use Rattle.depth_maker.specs.TableInvariant.{IsDutySettled, TableInvariantHolds}
use Rattle.depth_maker.specs.SpotsAsPlaces.{spot_of}
use Rattle.frame_places.specs.Marks.{is_queued, mark_of_place}
use Rattle.depth_maker.specs.declared.inputs_and_limits.Visit.{Visit}
use Rattle.depth_maker.specs.Joins.{JoinKeepsPlaces}
use Rattle.depth_maker.specs.declared.table.Table as made

-- these duties of the visited point p of frame k, by its state u, are covered in the new table,
-- unless p is queued
pub record AreDutiesJoined (b : Limits) (image : ImageData) (plan : PlanData) (s t : made.Table) (k : Key) (p : ℕ) (u : State) (ds : List Owed) : Type 0 where
  pub fine : TableInvariantHolds b image plan t
  pub keeps : JoinKeepsPlaces b image plan s t
  pub settled : is_queued (mark_of_place t.places (spot_of (point k p))) ≡ false → (d : Owed) → Contains ds d → IsDutySettled (view_of_table t) k p u d.duty

-- the point p of frame k has no fault of its own with the state u, and owes this duty by its
-- instruction
pub record VisitedPointOwes (b : Limits) (image : ImageData) (plan : PlanData) (k : Key) (p : ℕ) (u : State) (d : Duty) : Type 0 where
  pub faultless : IsFaultless b image plan k p u
  pub shape : Shape
  pub size : ℕ
  pub code : IsCode image plan p shape size
  pub owed : Owed
  pub listed : Contains (duties_of b image plan k p u shape size) owed
  pub is : owed.duty ≡ d

-- the table still has the state with which the point is visited
abbrev pub IsVisitStateCurrent : Visit → made.Table → Type 0
IsVisitStateCurrent v t = (view_of_table t).cells (point v.key v.addr) ≡ Some (state v.state.now)

-- the visited point has no fault of its own, and owes this duty
abbrev pub OwesDuty : Visit → Duty → Type 0
OwesDuty v d = VisitedPointOwes (v.ground.now).bounds.now (v.ground.now).image.now (v.ground.now).plan.now v.key v.addr v.state.now d

-- the visited point owes each of these duties, and has no fault of its own if there is one
abbrev pub OwesDuties : Visit → List Owed → Type 0
OwesDuties v ds = (d : Owed) → Contains ds d → VisitedPointOwes (v.ground.now).bounds.now (v.ground.now).image.now (v.ground.now).plan.now v.key v.addr v.state.now d.duty

-- the visit joins these duties, which takes the first table to the second: they are covered there,
-- unless the point has new work
abbrev pub JoinsDuties : Visit → made.Table → made.Table → List Owed → Type 0
JoinsDuties v s t ds = AreDutiesJoined (v.ground.now).bounds.now (v.ground.now).image.now (v.ground.now).plan.now s t v.key v.addr v.state.now ds

-- these duties of the visited point are covered in the table already, unless the point has new
-- work, so joining them changes nothing
abbrev pub AreDutiesCovered : Visit → made.Table → List Owed → Type 0
AreDutiesCovered v t ds = JoinsDuties v t t ds

-- the visit takes the first table to the second by joining this one duty, unless the point has new
-- work
abbrev pub JoinsDuty : Visit → made.Table → made.Table → Owed → Type 0
JoinsDuty v s t d = JoinsDuties v s t (d ∷ [])

-- the located instruction stands at the visited point, and breaks no rule with the point's state
abbrev pub IsFaultlessInstruction : Visit → Located → Type 0
IsFaultlessInstruction v found = IsFaultlessShape (v.ground.now).bounds.now (v.ground.now).image.now (v.ground.now).plan.now v.key v.addr v.state.now found

-- the state that the visited point owes on one side of its branch, if that side is possible
abbrev pub side_state : Visit → Shape → Bool → Option State
side_state v shape taken = refine_of (v.ground.now).bounds.now (v.ground.now).plan.now shape v.state.now taken

-- the visited branch's duty on one side: to jump to q with the state refined for that side, if the
-- side is possible
abbrev pub branch_duties : Visit → ℕ → Shape → Bool → List Owed
branch_duties v q shape taken = branch_duty q (side_state v shape taken)

-- the visited point's state after an instruction of this shape
abbrev pub state_after_step : Visit → Shape → State
state_after_step v shape =
    transfer_of (v.ground.now).bounds.now (v.ground.now).plan.now shape v.state.now (value_loaded_by_shape (v.ground.now).bounds.now (v.ground.now).image.now (v.ground.now).plan.now v.state.now shape)

-- the visited point's duty to go on at the next instruction, with the state after its own
abbrev pub next_duties : Visit → Located → List Owed
next_duties v found = next_duty_of (v.ground.now).bounds.now (v.ground.now).image.now (v.ground.now).plan.now v.addr v.state.now found.shape found.size

-- the visited point's duties to go on in its frame, at each successor of its instruction
abbrev pub successor_duties : Visit → Located → List Owed
successor_duties v found = successor_duties_of (v.ground.now).bounds.now (v.ground.now).image.now (v.ground.now).plan.now v.addr v.state.now found.shape found.size

-- the addresses to which the visited point may jump or call by this target; none if they are
-- unknown
abbrev pub possible_targets : Visit → Target → List ℕ
possible_targets v to = unwrap_or (targets_of (v.ground.now).plan.now v.state.now v.addr to) []

-- the visited point's duties by a call: to enter each function that the call may name, and to go on
-- at `back` after each return
abbrev pub call_duties : Visit → ℕ → List ℕ → List Owed
call_duties v back targets = flat_map (λ t. entry_and_return 5 (call_key v.key t) (call_entry v.state.now) back) targets

-- the visited point's duties by SYSCALL: to enter the handler of system calls, and to go on after
-- its return
abbrev pub system_call_duties : Visit → ℕ → ℕ → List Owed
system_call_duties v tin back = entry_and_return 12 (sys_key (v.ground.now).plan.now v.key) (sys_entry (v.ground.now).plan.now v.key v.state.now tin) back

-- the visited point's duties by a call or SYSCALL: to enter frames, and to go on after their
-- returns
abbrev pub entry_duties : Visit → Shape → ℕ → List Owed
entry_duties v shape size = entry_duties_of (v.ground.now).plan.now v.key v.addr v.state.now shape size

-- the visited point's duty to enter the handler of misaligned accesses
abbrev pub misaligned_duty : Visit → Owed
misaligned_duty v = misaligned_entry (v.ground.now).plan.now v.key v.state.now

-- the visited point's duties by its access: to enter the handler of misaligned accesses, if the
-- access may be misaligned
abbrev pub misaligned_duties : Visit → Located → List Owed
misaligned_duties v found = misaligned_duties_of (v.ground.now).bounds.now (v.ground.now).plan.now v.key v.state.now found.shape

-- the visited point's duties to enter the handler of each interrupt that may be taken
abbrev pub interrupt_duties : Visit → List Owed
interrupt_duties v = interrupt_duties_of (v.ground.now).plan.now v.key v.state.now

-- of what the visited point owes, these duties are still joined in the later table if they were in
-- the earlier
abbrev pub KeepsDutiesJoined : Visit → made.Table → made.Table → List Owed → Type 0
KeepsDutiesJoined v m t ds = (s : made.Table) → JoinsDuties v s m ds → JoinsDuties v s t ds

-- all duties of the visited point by this instruction: successors, entries of frames, interrupts,
-- exit
abbrev pub visit_duties : Visit → Located → List Owed
visit_duties v found = duties_of (v.ground.now).bounds.now (v.ground.now).image.now (v.ground.now).plan.now v.key v.addr v.state.now found.shape found.size

-- the visited point's duties to enter each of these called functions
abbrev pub enter_duties : Visit → List ℕ → List Owed
enter_duties v targets = map (λ t. owed 5 (enter (call_key v.key t) (call_entry v.state.now))) targets

-- the visited point's duties to go on at `back` after each of these called functions returns
abbrev pub resume_duties : Visit → ℕ → List ℕ → List Owed
resume_duties v back targets = map (λ t. owed 4 (resume (call_key v.key t) back)) targets

-- a state that is covered at the entry of each of these functions if the point's is
abbrev pub IsCoveredEntry : Visit → made.Table → List ℕ → Known → Type 0
IsCoveredEntry v t targets e =
    IsWellFormedKnown (v.ground.now).bounds.now e
    × (((d : Owed) → Contains (enter_duties v targets) d → IsDutySettled (view_of_table t) v.key v.addr v.state.now d.duty) → (q : ℕ) → Contains targets q → AssignmentCovers (view_of_table t).cells (point (call_key v.key q) q) e)

-- all duties that the visited point owes by its state u are covered in the maker's table
pub record AllDutiesSettled (b : Limits) (image : ImageData) (plan : PlanData) (t : made.Table) (k : Key) (p : ℕ) (u : State) : Type 0 where
  pub each : (shape : Shape) (n : ℕ) (d : Owed) → IsCode image plan p shape n → Contains (duties_of b image plan k p u shape n) d → IsDutySettled (view_of_table t) k p u d.duty
