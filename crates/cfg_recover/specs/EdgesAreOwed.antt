-- What an accepted certificate says about edges: each is owed by the newest frame's point, or is
-- its return.
use Rattle.std.specs.Prelude.{◌≡◌, ℕ, List, ◌∷◌, Some, Contains, Bool, []}
use Rattle.elf_image.specs.Images.{ImageData}
use Rattle.tcd_plan.specs.PlanData.{PlanData}
use Rattle.tc_isa.specs.declared.shapes.Shape.{Shape}
use Rattle.tc_machine.specs.declared.events.Event.{Event}
use Rattle.tc_machine.specs.declared.state.Machine.{Machine}
use Rattle.tc_machine.specs.Stepping.{step, run}
use Rattle.tc_machine.specs.Safe.{Fits, AllFit}
use Rattle.tc_machine.specs.Starting.{Starts}
use Rattle.depth_cert.specs.declared.keys.Key.{Key}
use Rattle.depth_cert.specs.declared.points.Point.{Point}
use Rattle.depth_cert.specs.Points.{find_point}
use Rattle.depth_cert.specs.Nodes.{NodeData, find_node}
use Rattle.depth_cert.specs.Certs.{CertData}
use Rattle.cfg_recover.specs.Code.{IsCode}
use Rattle.cfg_recover.specs.Entries.{call_key, handler_key}
use Rattle.cfg_recover.specs.Duties.{Owed, duties_of, enter, owed, jump}
use Rattle.cfg_recover.specs.RulesHoldOrFail.{limits_of_cert}
use Rattle.cfg_recover.specs.StepEdges.{EdgeWay, aln, call, irq, ret, rfe, sys, to, edge_way_of_step}
use Rattle.cfg_recover.specs.Frames.{RunFrame, frames, IsReturnTo}
use Rattle.value_domain.specs.declared.states.State.{State}

-- an edge inside a frame is owed: among these duties of a point is one to jump to this address,
-- with some state
abbrev pub OwesJump : List Owed → ℕ → Type 0
OwesJump ds q = (t : State) × Contains ds (owed 4 (jump q t))

-- an edge into a frame is owed: among these duties of a point is one to enter a frame of this key,
-- by this rule and with some state
abbrev pub OwesEntry : List Owed → ℕ → Key → Type 0
OwesEntry ds rule key = (t : State) × Contains ds (owed rule (enter key t))

-- The way of a step is a duty of the newest frame's point, or the return to the frame before it, at
-- the address q where the step goes.
abbrev pub IsEdgeWayOwed : List Owed → Key → ℕ → List RunFrame → ℕ → EdgeWay → Type 0
IsEdgeWayOwed ds key prio fs q (to x) = OwesJump ds x
IsEdgeWayOwed ds key prio fs q (call x) = OwesEntry ds 5 (call_key key x)
IsEdgeWayOwed ds key prio fs q (irq x) = OwesEntry ds 11 (handler_key 2 x prio)
IsEdgeWayOwed ds key prio fs q (sys x) = OwesEntry ds 12 (handler_key 3 x key.prio)
IsEdgeWayOwed ds key prio fs q (aln x) = OwesEntry ds 10 (handler_key 4 x key.prio)
IsEdgeWayOwed ds key prio fs q ret = IsReturnTo q fs
IsEdgeWayOwed ds key prio fs q rfe = IsReturnTo q fs

-- a step's edge is owed: the newest frame's node has a point at pc, whose duties, or the return,
-- have the step's way
pub record IsEdgeOwed (image : ImageData) (plan : PlanData) (cert : CertData) (m : Machine) (e : Event) (f : RunFrame) (fs : List RunFrame) : Type 0 where
  pub node : NodeData
  pub stands : find_node f.key cert.nodes ≡ Some node
  pub point : Point
  pub found : find_point m.pc node.points ≡ Some point
  pub shape : Shape
  pub size : ℕ
  pub code : IsCode image plan m.pc shape size
  pub owed : IsEdgeWayOwed (duties_of (limits_of_cert plan cert) image plan f.key m.pc point.state shape size) f.key e.irq (f ∷ fs) (step m e).pc (edge_way_of_step m e)

-- there is a newest frame, and the step's edge is among its duties or is the return
abbrev pub IsEdgeOwedByFrames : ImageData → PlanData → CertData → Machine → Event → List RunFrame → Type 0
IsEdgeOwedByFrames image plan cert m e [] = ⊥
IsEdgeOwedByFrames image plan cert m e (f ∷ fs) = IsEdgeOwed image plan cert m e f fs

-- the edge of each step of every run from every start state is owed
abbrev pub EdgesOwed : ImageData → PlanData → CertData → Type 0
EdgesOwed image plan cert =
    (m : Machine) (es : List Event) (e : Event) → Starts image plan m → AllFit plan m es → Fits plan (run m es) e
    → IsEdgeOwedByFrames image plan cert (run m es) e (frames image plan m es)

-- an edge into a frame is owed: among these duties of a point is one to enter a frame whose key has
-- these parts, by this rule and with some state
abbrev pub OwesEntryOfFields : List Owed → ℕ → ℕ → ℕ → ℕ → Bool → Type 0
OwesEntryOfFields ds rule kind entry prio is =
    (t : State) × Contains ds (record { rule = rule; duty = enter (record { kind = kind; entry = entry; prio = prio; is = is }) t })

-- an edge by RET or RFE, which needs no duty: there is an older frame, and the return goes back to
-- it at this address
pub record GoesBackToFrame (older : List RunFrame) (q : ℕ) : Type 0 where
  pub caller : RunFrame
  pub rest : List RunFrame
  pub are : older ≡ caller ∷ rest
  pub at : caller.at ≡ q
