-- What edges, frames and the promises about them say, in the machine's own words: the statements of
-- the laws that guard these definitions.
use Rattle.std.specs.Prelude.{◌≡◌, ◌%◌, ◌<◌, ◌≤◌, ℕ, Bool, true, false, not, ◌&&◌, ◌==◌, List, ◌∷◌, ◌++◌, IsSome, All, Contains, Some, Ok, []}
use Rattle.elf_image.specs.Images.{ImageData}
use Rattle.tcd_plan.specs.PlanData.{PlanData}
use Rattle.tc_isa.specs.declared.shapes.Arg.{Arg}
use Rattle.tc_isa.specs.declared.shapes.Target.{Target}
use Rattle.tc_isa.specs.declared.shapes.Shape.{Shape}
use Rattle.tc_isa.specs.declared.shapes.Shape.TheVariants.{Load, Store, Call, Ret, Rfe, Syscall}
use Rattle.tc_machine.specs.declared.events.Event.{Event}
use Rattle.tc_machine.specs.declared.state.Machine.{Machine}
use Rattle.tc_machine.specs.Machine.{reg, is_interrupt_stack_used}
use Rattle.tc_machine.specs.Instructions.{wrapping_sum, access_address, is_trapping_instruction}
use Rattle.tc_machine.specs.Fetching.{fetched_instruction}
use Rattle.tc_machine.specs.Stepping.{is_interrupt_taken, step, run}
use Rattle.tc_machine.specs.Safe.{Fits, AllFit}
use Rattle.tc_machine.specs.Starting.{Starts}
use Rattle.value_domain.specs.declared.states.State.{State}
use Rattle.value_domain.specs.Values.{IsMember}
use Rattle.vd_transfer.specs.Registers.{reg_of}
use Rattle.depth_cert.specs.declared.points.Point.{Point}
use Rattle.depth_cert.specs.Nodes.{NodeData, find_node}
use Rattle.depth_cert.specs.Certs.{CertData}
use Rattle.cfg_recover.specs.Code.{IsCode}
use Rattle.cfg_recover.specs.Duties.{Owed, jump, duties_of}
use Rattle.cfg_recover.specs.RulesHoldOrFail.{limits_of_cert}
use Rattle.cfg_recover.specs.Frames.{RunFrame, frames, entered_frame_at, frame_resumed_at, AreAllFramesHeld}
use Rattle.cfg_recover.specs.EdgesAreOwed.{EdgesOwed, OwesEntryOfFields, GoesBackToFrame}
use Rattle.cfg_recover.specs.StepEdges.{to, call, irq, sys, aln, ret, rfe, edge_way_of_step, edge_of_step}

-- ---- steps
-- a step of which the laws of edges and frames speak by its instruction: no interrupt is taken in
-- it, and the instruction at pc has this shape and n bytes
pub record IsStepOfShape (m : Machine) (e : Event) (shape : Shape) (n : ℕ) : Type 0 where
  pub free : is_interrupt_taken m e ≡ false
  pub there : fetched_instruction m ≡ Ok (shape, n)

-- an instruction of this shape neither enters nor leaves a frame by itself; by the law of edges it
-- goes on inside its frame unless it traps
abbrev pub KeepsFrame : Shape → Type 0
KeepsFrame (Call x) = ⊥
KeepsFrame Ret = ⊥
KeepsFrame Rfe = ⊥
KeepsFrame (Syscall tin) = ⊥
KeepsFrame _ = Unit {0}

-- the law of one step's edge, from pc to the new pc: inside the frame, or into a new one by an
-- interrupt, a call, a system call, or a misaligned access that traps; RET and RFE name no address
pub record EdgeMatchesStep (m : Machine) (e : Event) : Type 0 where
  pub load :
      (dst : ℕ) (base : Arg) (offset size : ℕ) (signed after : Bool)
      → is_trapping_instruction m e (Load dst base offset size signed after) ≡ (e.aln && not (access_address m base offset after % size == 0))
  pub store :
      (src : ℕ) (base : Arg) (offset size : ℕ) (after : Bool)
      → is_trapping_instruction m e (Store src base offset size after) ≡ (e.aln && not (access_address m base offset after % size == 0))
  pub at : (edge_of_step m e).at ≡ m.pc
  pub same : (edge_of_step m e).way ≡ edge_way_of_step m e
  pub interrupted : is_interrupt_taken m e ≡ true → edge_way_of_step m e ≡ irq (step m e).pc
  pub misaligned : (shape : Shape) (n : ℕ) → IsStepOfShape m e shape n → is_trapping_instruction m e shape ≡ true → edge_way_of_step m e ≡ aln (step m e).pc
  pub called : (x : Target) (n : ℕ) → IsStepOfShape m e (Call x) n → edge_way_of_step m e ≡ call (step m e).pc
  pub system : (tin n : ℕ) → IsStepOfShape m e (Syscall tin) n → edge_way_of_step m e ≡ sys (step m e).pc
  pub returned : (n : ℕ) → IsStepOfShape m e Ret n → edge_way_of_step m e ≡ ret
  pub resumed : (n : ℕ) → IsStepOfShape m e Rfe n → edge_way_of_step m e ≡ rfe
  pub stayed : (shape : Shape) (n : ℕ) → IsStepOfShape m e shape n → is_trapping_instruction m e shape ≡ false → KeepsFrame shape → edge_way_of_step m e ≡ to (step m e).pc

-- the law of edges: what the edge of a step is, at every step of every machine
abbrev pub EdgesMatchSteps : Type 0
EdgesMatchSteps = (m : Machine) (e : Event) → EdgeMatchesStep m e

-- ---- frames

-- the law of frames at one step: calls and system calls return past pc, interrupts and misaligned
-- accesses to pc; handlers use the interrupt stack, and only interrupts change the priority
pub record FramesFollowStep (m : Machine) (e : Event) (f : RunFrame) (older next : List RunFrame) : Type 0 where
  pub interrupted : is_interrupt_taken m e ≡ true → next ≡ entered_frame_at 2 (step m e).pc e.irq true ∷ frame_resumed_at f m.pc ∷ older
  pub misaligned :
      (shape : Shape) (n : ℕ) → IsStepOfShape m e shape n → is_trapping_instruction m e shape ≡ true
      → next ≡ entered_frame_at 4 (step m e).pc (f.key).prio true ∷ frame_resumed_at f m.pc ∷ older
  pub called :
      (x : Target) (n : ℕ) → IsStepOfShape m e (Call x) n
      → next ≡ entered_frame_at 1 (step m e).pc (f.key).prio (f.key).is ∷ frame_resumed_at f (wrapping_sum m.pc n) ∷ older
  pub system :
      (tin n : ℕ) → IsStepOfShape m e (Syscall tin) n
      → next ≡ entered_frame_at 3 (step m e).pc (f.key).prio true ∷ frame_resumed_at f (wrapping_sum m.pc n) ∷ older
  pub returned : (n : ℕ) → IsStepOfShape m e Ret n → next ≡ older
  pub resumed : (n : ℕ) → IsStepOfShape m e Rfe n → next ≡ older
  pub stayed :
      (shape : Shape) (n : ℕ) → IsStepOfShape m e shape n → is_trapping_instruction m e shape ≡ false → KeepsFrame shape
      → next ≡ frame_resumed_at f (step m e).pc ∷ older

-- At the start there is one frame, of the start's key, and each event of a run makes the next
-- frames.
pub record FramesFollowRun (image : ImageData) (plan : PlanData) (m : Machine) : Type 0 where
  pub start : frames image plan m [] ≡ record { key = record { kind = 0; entry = image.entry; prio = 0; is = plan.start_is }; at = m.pc } ∷ []
  pub step :
      (es : List Event) (e : Event) (f : RunFrame) (older : List RunFrame) → frames image plan m es ≡ f ∷ older
      → FramesFollowStep (run m es) e f older (frames image plan m (es ++ e ∷ []))

-- the law of frames: in every run of every machine, the frames follow the steps
abbrev pub FramesFollowAllRuns : Type 0
FramesFollowAllRuns = (image : ImageData) (plan : PlanData) (m : Machine) → FramesFollowRun image plan m

-- ---- what frames that are held say
-- the law of held frames: the newest is at pc, its key has PSW.IS, and the state of its node's
-- point at pc holds the registers, IE and CCPN; all older frames have nodes
pub record FramesDescribeMachine (plan : PlanData) (cert : CertData) (m : Machine) (all : List RunFrame) : Type 0 where
  pub newest : RunFrame
  pub older : List RunFrame
  pub are : all ≡ newest ∷ older
  pub at : newest.at ≡ m.pc
  pub stack : is_interrupt_stack_used m.psw ≡ (newest.key).is
  pub node : NodeData
  pub stands : find_node newest.key cert.nodes ≡ Some node
  pub point : Point
  pub there : Contains node.points point
  pub addr : point.addr ≡ m.pc
  pub regs : (r : ℕ) → r < 32 → IsMember (reg m r) (reg_of plan point.state r)
  pub enabled : m.ie ≡ true → (point.state).ie ≡ true
  pub priority : (point.state).ccpn ≤ m.ccpn
  pub callers : All (λ g. IsSome (find_node g.key cert.nodes)) older

-- the frames are held in every run from every start state
abbrev pub FramesHeld : ImageData → PlanData → CertData → Type 0
FramesHeld image plan cert = (m : Machine) (es : List Event) → Starts image plan m → AllFit plan m es → AreAllFramesHeld plan cert (run m es) (frames image plan m es)

-- the law of held frames: frames that are held in every run describe the machine at each boundary
abbrev pub HeldFramesDescribeMachine : Type 0
HeldFramesDescribeMachine =
    (image : ImageData) (plan : PlanData) (cert : CertData) → FramesHeld image plan cert
    → (m : Machine) (es : List Event) → Starts image plan m → AllFit plan m es
    → FramesDescribeMachine plan cert (run m es) (frames image plan m es)

-- ---- what edges that are owed say

-- the law of owed edges, by kinds of steps: the newest frame's point owes the entry of a handler or
-- of a called frame, or a jump in the frame; RET and RFE go back to the frame before
pub record IsStepOwed (ds : List Owed) (newest : RunFrame) (older : List RunFrame) (m : Machine) (e : Event) : Type 0 where
  pub interrupted : is_interrupt_taken m e ≡ true → OwesEntryOfFields ds 11 2 (step m e).pc e.irq true
  pub misaligned : (shape : Shape) (n : ℕ) → IsStepOfShape m e shape n → is_trapping_instruction m e shape ≡ true → OwesEntryOfFields ds 10 4 (step m e).pc (newest.key).prio true
  pub called : (x : Target) (n : ℕ) → IsStepOfShape m e (Call x) n → OwesEntryOfFields ds 5 1 (step m e).pc (newest.key).prio (newest.key).is
  pub system : (tin n : ℕ) → IsStepOfShape m e (Syscall tin) n → OwesEntryOfFields ds 12 3 (step m e).pc (newest.key).prio true
  pub returned : (n : ℕ) → IsStepOfShape m e Ret n → GoesBackToFrame older (step m e).pc
  pub resumed : (n : ℕ) → IsStepOfShape m e Rfe n → GoesBackToFrame older (step m e).pc
  pub stayed :
      (shape : Shape) (n : ℕ) → IsStepOfShape m e shape n → is_trapping_instruction m e shape ≡ false → KeepsFrame shape
      → (t : State) × Contains ds (record { rule = 4; duty = jump (step m e).pc t })

-- the law of owed edges at one step: the newest frame's node has a point at pc, the image has an
-- instruction there, and the point owes the step, unless it goes back to the frame before
pub record IsStepOwedByPoint (image : ImageData) (plan : PlanData) (cert : CertData) (m : Machine) (e : Event) (all : List RunFrame) : Type 0 where
  pub newest : RunFrame
  pub older : List RunFrame
  pub are : all ≡ newest ∷ older
  pub node : NodeData
  pub stands : find_node newest.key cert.nodes ≡ Some node
  pub point : Point
  pub there : Contains node.points point
  pub addr : point.addr ≡ m.pc
  pub shape : Shape
  pub size : ℕ
  pub code : IsCode image plan m.pc shape size
  pub owed : IsStepOwed (duties_of (limits_of_cert plan cert) image plan newest.key m.pc point.state shape size) newest older m e

-- one of the laws of edges and frames: if edges are owed, each step of every run from every start
-- state is owed by the newest frame's point, or goes back to the frame before
abbrev pub StepsAreOwedByPoints : Type 0
StepsAreOwedByPoints =
    (image : ImageData) (plan : PlanData) (cert : CertData) → EdgesOwed image plan cert
    → (m : Machine) (es : List Event) (e : Event) → Starts image plan m → AllFit plan m es → Fits plan (run m es) e
    → IsStepOwedByPoint image plan cert (run m es) e (frames image plan m es)
