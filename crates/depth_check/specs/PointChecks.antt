-- A point that is checked: what holds of it and of its facts for the fast paths.
use Rattle.std.specs.Prelude.{◌≡◌, ℕ, IsTrue, IfSome}
use Rattle.value_domain.specs.State.{AreInLattice}
use Rattle.value_domain.specs.declared.states.State.{State}
use Rattle.depth_cert.specs.Nodes.{NodeData}
use Rattle.depth_cert.specs.Certs.{CertData}
use Rattle.tcd_plan.specs.PlanData.{PlanData}
use Rattle.packed_cert.specs.Walks.{WalkData, IsCoveredByNext}
use Rattle.cfg_recover.specs.RulesHoldOrFail.{limits_of_cert, HasCoveringPoint}
use Rattle.depth_check.specs.declared.points.PointCheck.TheInside.{Inside}
use Rattle.depth_check.specs.PointCheckData.{PointCheckData}
use Rattle.depth_check.specs.DutiesHold.{HasPointWithState}
use Rattle.depth_check.specs.Interrupts.{InterruptsHold}
use Rattle.depth_cert.specs.declared.points.Point.{Point}
use Rattle.depth_check.specs.declared.points.CurrentPoint.{CurrentPoint}

-- the walk is over the node's points, with the state s at hand; where its next point covers a
-- state, the node does
pub record IsWalkAtState (node : NodeData) (s : State) (w : WalkData) : Type 0 where
  pub points : w.points ≡ node.points
  pub current : w.current ≡ s
  pub ahead : (addr : ℕ) (t : State) → IsCoveredByNext w addr t → HasCoveringPoint node addr t

-- what is known of a point for the fast paths: the entries of its interrupts hold if this is known,
-- the node has its state at the next address, and the walk is at the point
pub record FastPathFactsHold (plan : PlanData) (cert : CertData) (node : NodeData) (here : CurrentPoint) : Type 0 where
  pub again : IsTrue here.again → InterruptsHold plan cert node here.state.now
  pub next : IfSome here.next (λ a. HasPointWithState node a here.state.now)
  pub walk : IsWalkAtState node here.state.now here.walk.now

-- the limits are the certificate's, the values of the point are values of the plan, and the facts
-- for the fast paths hold
pub record IsPointCheck (at : Inside) : Type 0 where
  pub limits : at.bounds.now ≡ limits_of_cert at.plan.now at.cert.now
  pub values : AreInLattice at.bounds.now (at.point.state.now).regs
  pub facts : FastPathFactsHold at.plan.now at.cert.now at.node.now at.point

-- the checked point as a certificate has points: its address and its state
abbrev pub checked_point : CurrentPoint → Point
checked_point here = record { addr = here.addr; state = here.state.now }

-- a point that is checked, as plain data
abbrev pub point_check_data : Inside → PointCheckData
point_check_data at = record { bounds = at.bounds.now; image = at.image.now; plan = at.plan.now; cert = at.cert.now; node = at.node.now; point = checked_point at.point }
