-- What a rule asks of the duties of a point, and of a node's own need.
use Rattle.std.specs.Prelude.{◌≡◌, ◌-◌, ◌≤◌, ℕ, List, length, Option, Some, IfSome, IsSomeAnd, All}
use Rattle.depth_cert.specs.Keys.{sys_kind}
use Rattle.elf_image.specs.Images.{ImageData}
use Rattle.tcd_plan.specs.PlanData.{PlanData}
use Rattle.value_domain.specs.declared.states.State.{State}
use Rattle.depth_cert.specs.declared.points.Point.{Point}
use Rattle.depth_cert.specs.Points.{find_point}
use Rattle.depth_cert.specs.Nodes.{NodeData}
use Rattle.depth_cert.specs.Certs.{CertData}
use Rattle.cfg_recover.specs.declared.flow_types.Leave.{Leave}
use Rattle.cfg_recover.specs.declared.flow_types.Leave.TheVariants.{Stays, Ret, Rfe}
use Rattle.cfg_recover.specs.Entries.{start_key}
use Rattle.depth_cert.specs.Exits.{exit_of_state, state_after_return, ExitCovers}
use Rattle.cfg_recover.specs.Duties.{Owed}
use Rattle.cfg_recover.specs.RulesHoldOrFail.{HasCoveringPoint, IsDutyMet, EntryNeedRuleHolds}

-- what the checker tests of a point's duty for rule q: that it is met, if q is its rule, and for
-- K14 that the need has room for the entered node
pub record DutyHolds (cert : CertData) (node : NodeData) (s : State) (q : ℕ) (d : Owed) : Type 0 where
  pub met : d.rule ≡ q → IsDutyMet cert node s d.duty
  pub need : q ≡ 14 → EntryNeedRuleHolds cert node s d.duty

-- what makes a duty hold at once in the check: the node has a point at this address with this very
-- state
abbrev pub HasPointWithState : NodeData → ℕ → State → Type 0
HasPointWithState node a s = find_point a node.points ≡ Some (record { addr = a; state = s })

-- rule q holds for each of these duties of a checked point, which are met by the certificate's
-- nodes
abbrev pub DutiesHold : CertData → NodeData → State → List Owed → ℕ → Type 0
DutiesHold cert node s duties q = All (DutyHolds cert node s q) duties

-- what the duties to jump to all these addresses ask for: the node has points there that cover the
-- state
abbrev pub HasCoveringPoints : NodeData → State → List ℕ → Type 0
HasCoveringPoints node s targets = All (λ t. HasCoveringPoint node t s) targets

-- where the entered frame may return to `back`, the node has a point there that covers the state
-- after the return
abbrev pub IsReturnMet : NodeData → State → NodeData → ℕ → Option ℕ → Type 0
IsReturnMet node s entered kind back = IfSome back (λ q. IfSome entered.exit (λ x. HasCoveringPoint node q (state_after_return s x kind)))

-- the certificate's node has an exit that covers the lower registers, IE and CCPN of the state
abbrev pub HasCoveringExit : NodeData → State → Type 0
HasCoveringExit node s = IsSomeAnd node.exit (λ y. ExitCovers y (exit_of_state s))

-- what rule q asks of an instruction that leaves the node: K6 of RET, K7 of RFE in the handler of
-- system calls
abbrev pub LeavingHolds : NodeData → State → Leave → ℕ → Type 0
LeavingHolds node s Stays q = Unit {0}
LeavingHolds node s Ret q = 6 ≡ q → HasCoveringExit node s
LeavingHolds node s Rfe q = (node.key).kind ≡ sys_kind → 7 ≡ q → HasCoveringExit node s

-- what the checker tests of a node's own need for K14, apart from entries: room for the locals and,
-- at the start's entry, that the reserve stays free
pub record IsNeedSufficient (image : ImageData) (plan : PlanData) (node : NodeData) (point : Point) : Type 0 where
  pub locals : length (point.state).locals.items ≤ node.need
  pub start : node.key ≡ start_key image plan → point.addr ≡ image.entry → node.need ≤ plan.areas - plan.reserve
