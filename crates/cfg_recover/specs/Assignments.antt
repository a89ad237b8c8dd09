-- Assignments: what is known at the points and exits of frames, without needs. The certificate
-- maker looks for the least closed assignment. A certificate that is accepted is a closed one.
use Rattle.std.specs.Prelude.{◌≡◌, ℕ, Bool, false, ◌==◌, ◌&&◌, if◌then◌else◌, find, Option, Some, None, option_map, option_and_then, Contains}
use Rattle.elf_image.specs.Images.{ImageData}
use Rattle.tcd_plan.specs.PlanData.{PlanData}
use Rattle.tc_isa.specs.declared.shapes.Shape.{Shape}
use Rattle.value_domain.specs.declared.states.State.{State}
use Rattle.value_domain.specs.Limits.{Limits}
use Rattle.depth_cert.specs.declared.keys.Key.{Key}
use Rattle.depth_cert.specs.Keys.{is_same_key}
use Rattle.depth_cert.specs.Points.{find_point}
use Rattle.depth_cert.specs.Nodes.{NodeData}
use Rattle.depth_cert.specs.Certs.{CertData}
use Rattle.cfg_recover.specs.Code.{IsCode}
use Rattle.cfg_recover.specs.Entries.{start_key, start_state}
use Rattle.depth_cert.specs.Exits.{state_after_return}
use Rattle.cfg_recover.specs.LocalFaults.{IsFaultless}
use Rattle.cfg_recover.specs.Duties.{Duty, jump, enter, resume, leave, Owed, duties_of}
use Rattle.depth_cert.specs.Known.{CoversKnown, Known, joined_known, leaving, state}

-- a place of a frame: the point at an address, or its exit
pub data Place : Type 0 where
  point : Key → ℕ → Place
  exit : Key → Place

-- what is known at each place, if anything is
abbrev pub Assignment : Type 0
Assignment = Place → Option Known

-- two places are equal
abbrev pub is_same_place : Place → Place → Bool
is_same_place (point k p) (point j q) = is_same_key k j && p == q
is_same_place (exit k) (exit j) = is_same_key k j
is_same_place (point k p) (exit j) = false
is_same_place (exit k) (point j q) = false

-- what a certificate's node states at a place of its frame, a point or the exit, if anything
abbrev pub known_by_node : Place → NodeData → Option Known
known_by_node (point k p) n = option_map (λ q. state q.state) (find_point p n.points)
known_by_node (exit k) n = option_map leaving n.exit

-- the key of the frame that a place is in
abbrev pub key_of_place : Place → Key
key_of_place (point k p) = k
key_of_place (exit k) = k

-- a certificate as an assignment: what its nodes state at each place
abbrev pub assignment_of_cert : CertData → Assignment
assignment_of_cert cert y = option_and_then (known_by_node y) (find (λ n. is_same_key n.key (key_of_place y)) cert.nodes)

-- the assignment has something at this place, and that covers v
pub record AssignmentCovers (a : Assignment) (y : Place) (v : Known) : Type 0 where
  pub known : Known
  pub at : a y ≡ Some known
  pub covers : CoversKnown known v

-- an assignment is below `upper`, which covers all that the first one has, place by place
abbrev pub IsAssignmentBelow : Assignment → Assignment → Type 0
IsAssignmentBelow a upper = (y : Place) (v : Known) → a y ≡ Some v → AssignmentCovers upper y v

-- what an assignment has at a place, joined with v: the least that covers both; none for states
-- with different numbers of locals
abbrev pub joined_at_place : Limits → Option Known → Known → Option Known
joined_at_place b None v = Some v
joined_at_place b (Some w) v = joined_known b w v

-- the place of an assignment where a frame goes on after one that it entered, and the state that
-- must be known there, by that one's exit; nothing while no exit is known
abbrev pub asked_by_resume : Key → State → Key → ℕ → Option Known → Option (Place × Known)
asked_by_resume key s k q (Some (leaving x)) = Some (point key q, state (state_after_return s x k.kind))
asked_by_resume key s k q (Some (state t)) = None
asked_by_resume key s k q None = None

-- the place of an assignment at which a duty of a point asks for something, and what must be known
-- there
abbrev pub asked_by_duty : Assignment → Key → State → Duty → Option (Place × Known)
asked_by_duty a key s (jump q t) = Some (point key q, state t)
asked_by_duty a key s (enter k t) = Some (point k k.entry, state t)
asked_by_duty a key s (resume k q) = asked_by_resume key s k q (a (exit k))
asked_by_duty a key s (leave x) = Some (exit key, leaving x)

-- a duty of a point at which no rule's own part fails
pub record HasDuty (b : Limits) (image : ImageData) (plan : PlanData) (a : Assignment) (key : Key) (p : ℕ) (s : State) (d : Duty) : Type 0 where
  pub at : a (point key p) ≡ Some (state s)
  pub faultless : IsFaultless b image plan key p s
  pub shape : Shape
  pub size : ℕ
  pub code : IsCode image plan p shape size
  pub owed : Owed
  pub listed : Contains (duties_of b image plan key p s shape size) owed
  pub is : owed.duty ≡ d

-- some point of the assignment has a duty that asks for v at the place y
pub record AsksFor (b : Limits) (image : ImageData) (plan : PlanData) (a : Assignment) (y : Place) (v : Known) : Type 0 where
  pub key : Key
  pub addr : ℕ
  pub before : State
  pub duty : Duty
  pub has : HasDuty b image plan a key addr before duty
  pub asks : asked_by_duty a key before duty ≡ Some (y, v)

-- one step of a derivation, from one assignment to the next: what a duty asks for is joined into
-- what is known at its place
pub record Joins (b : Limits) (image : ImageData) (plan : PlanData) (a after : Assignment) (y : Place) : Type 0 where
  pub value : Known
  pub asks : AsksFor b image plan a y value
  pub known : Known
  pub raises : joined_at_place b (a y) value ≡ Some known
  pub is : (x : Place) → after x ≡ (if is_same_place x y then Some known else a x)

-- the place where a run starts
abbrev pub start_place : ImageData → PlanData → Place
start_place image plan = point (start_key image plan) image.entry

-- an assignment of what is known at places is derived from the start point alone, by steps that
-- join in what duties of points ask for
pub data Derived (b : Limits) (image : ImageData) (plan : PlanData) : Assignment → Type 0 where
  begins :
      (a : Assignment) → ((x : Place) → a x ≡ (if is_same_place x (start_place image plan) then Some (state (start_state plan)) else None))
      → Derived b image plan a
  joins : (a after : Assignment) (y : Place) → Derived b image plan a → Joins b image plan a after y → Derived b image plan after

-- the assignment covers the start state and all that duties ask for
pub record Closed (b : Limits) (image : ImageData) (plan : PlanData) (a : Assignment) : Type 0 where
  pub start : AssignmentCovers a (start_place image plan) (state (start_state plan))
  pub duties : (y : Place) (v : Known) → AsksFor b image plan a y v → AssignmentCovers a y v

-- no known point of the assignment has a fault of its own
abbrev pub ArePointsFaultless : Limits → ImageData → PlanData → Assignment → Type 0
ArePointsFaultless b image plan a = (k : Key) (p : ℕ) (s : State) → a (point k p) ≡ Some (state s) → IsFaultless b image plan k p s

-- in an assignment, the point p of frame k has this state and no fault of its own, and one of its
-- duties is to enter the frame t
pub record EntersInAssignment (b : Limits) (image : ImageData) (plan : PlanData) (a : Assignment) (k : Key) (p : ℕ) (s : State) (t : Key) : Type 0 where
  pub entered : State
  pub has : HasDuty b image plan a k p s (enter t entered)
