-- Calls and jumps by a register that hold in a state, so that they aren't checked again.
use Rattle.std.specs.Prelude.{◌≡◌, ℕ, [], List, Option, IfSome, unwrap_or}
use Rattle.std.specs.List.{flat_map}
use Rattle.tcd_plan.specs.PlanData.{PlanData}
use Rattle.value_domain.specs.declared.states.State.{State}
use Rattle.vd_transfer.specs.Registers.{reg_of}
use Rattle.vd_transfer.specs.declared.change.Change.{Change}
use Rattle.vd_transfer.specs.Changes.{state_after}
use Rattle.depth_cert.specs.declared.keys.Key.{Key}
use Rattle.depth_cert.specs.Keys.{call_kind}
use Rattle.depth_cert.specs.Nodes.{NodeData}
use Rattle.depth_cert.specs.Certs.{CertData}
use Rattle.cfg_recover.specs.Entries.{call_key, call_entry}
use Rattle.cfg_recover.specs.LocalRules.{targets_of_value}
use Rattle.cfg_recover.specs.Duties.{Owed, entry_and_return}
use Rattle.depth_check.specs.declared.fast_paths.CheckedRegisters.{CheckedRegisters}
use Rattle.depth_check.specs.PointCheckData.{PointCheckData}
use Rattle.depth_check.specs.DutiesHold.{HasPointWithState, HasCoveringPoints, DutiesHold}

-- the duties of calls by the register r in a state: to enter each function that r may name, and to
-- go on at `back`
abbrev pub register_call_duties : PlanData → Key → State → ℕ → ℕ → List Owed
register_call_duties plan key s r back = flat_map (λ t. entry_and_return 5 (call_key key t) (call_entry s) back) (unwrap_or (targets_of_value (reg_of plan s r)) [])

-- calls by the register r hold in a state, whichever point with that state they return to, so the
-- checker passes over them
abbrev pub RegisterCallsHold : PlanData → CertData → NodeData → State → ℕ → Type 0
RegisterCallsHold plan cert node s r = (back : ℕ) → HasPointWithState node back s → (q : ℕ) → DutiesHold cert node s (register_call_duties plan node.key s r back) q

-- the node has points that cover the state at all targets of jumps by the register r
abbrev pub RegisterJumpsHold : PlanData → NodeData → State → ℕ → Type 0
RegisterJumpsHold plan node s r = HasCoveringPoints node s (unwrap_or (targets_of_value (reg_of plan s r)) [])

-- the checked registers hold in a state of the node: calls by one, jumps by the other
pub record CheckedRegistersHold (plan : PlanData) (cert : CertData) (node : NodeData) (s : State) (registers : CheckedRegisters) : Type 0 where
  pub called : IfSome registers.called (RegisterCallsHold plan cert node s)
  pub jumped : IfSome registers.jumped (RegisterJumpsHold plan node s)

-- the checked registers hold in the state of the checked point: calls by one, jumps by the other
abbrev pub CheckedRegistersHoldAt : PointCheckData → CheckedRegisters → Type 0
CheckedRegistersHoldAt at registers = CheckedRegistersHold at.plan at.cert at.node at.point.state registers

-- calls by this register, if there is one, hold in the state of the point that is checked
abbrev pub RegisterCallsHoldAt : PointCheckData → Option ℕ → Type 0
RegisterCallsHoldAt at called = IfSome called (RegisterCallsHold at.plan at.cert at.node at.point.state)

-- jumps by this register, if there is one, hold in the state of the point that is checked
abbrev pub RegisterJumpsHoldAt : PointCheckData → Option ℕ → Type 0
RegisterJumpsHoldAt at jumped = IfSome jumped (RegisterJumpsHold at.plan at.node at.point.state)

-- a call of the function with this key holds at the checked point, if the function is entered with
-- this change and returns to `back`
pub record CallHolds (at : PointCheckData) (entry : Change) (back : ℕ) (key : Key) : Type 0 where
  pub kind : key.kind ≡ call_kind
  pub holds : (q : ℕ) → DutiesHold at.cert at.node at.point.state (entry_and_return 5 key (state_after at.point.state entry) back) q
