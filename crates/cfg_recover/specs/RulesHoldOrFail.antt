-- When the rules accept a certificate, and the first rule that fails.
use Rattle.std.specs.Prelude.{◌≡◌, ◌+◌, ◌-◌, ◌*◌, ◌^◌, ◌≤◌, ◌⊎◌, ℕ, List, length, IsSome, IfSome, IsSomeAnd, All, Contains}
use Rattle.elf_image.specs.Images.{ImageData}
use Rattle.tcd_plan.specs.PlanData.{PlanData}
use Rattle.tc_isa.specs.declared.shapes.Shape.{Shape}
use Rattle.value_domain.specs.declared.states.State.{State}
use Rattle.value_domain.specs.Limits.{Limits}
use Rattle.value_domain.specs.State.{Covers, AreInLattice}
use Rattle.value_domain.specs.VersionLimits.{limits_for}
use Rattle.depth_cert.specs.declared.keys.Key.{Key}
use Rattle.depth_cert.specs.declared.points.Point.{Point}
use Rattle.depth_cert.specs.Keys.{number_of_key}
use Rattle.depth_cert.specs.Points.{find_point}
use Rattle.depth_cert.specs.Nodes.{NodeData, need_or_zero, find_node}
use Rattle.depth_cert.specs.Certs.{CertData}
use Rattle.cfg_recover.specs.Code.{IsCode}
use Rattle.cfg_recover.specs.Entries.{start_key, start_state}
use Rattle.depth_cert.specs.Exits.{state_after_return, ExitCovers}
use Rattle.cfg_recover.specs.LocalRules.{LocalRuleHoldsAtPoint}
use Rattle.cfg_recover.specs.LocalFaults.{IsFaultless}
use Rattle.cfg_recover.specs.Duties.{Duty, jump, enter, resume, leave, Owed, duties_of}

-- the limits of a certificate, with which rules hold or fail: those of the plan and of the format
abbrev pub limits_of_cert : PlanData → CertData → Limits
limits_of_cert plan cert = limits_for plan cert.version

-- ---- points that cover a state, and duties that are met
-- what a rule of certificates asks for, and fails without: the node has a point at this address,
-- and that point's state covers this one
abbrev pub HasCoveringPoint : NodeData → ℕ → State → Type 0
HasCoveringPoint node q s = IsSomeAnd (find_point q node.points) (λ p. Covers p.state s)

-- a rule holds at a duty, else it fails: what a point with this state owes by the duty is in the
-- certificate's nodes, points and exits
abbrev pub IsDutyMet : CertData → NodeData → State → Duty → Type 0
IsDutyMet cert node s (jump q t) = HasCoveringPoint node q t
IsDutyMet cert node s (enter k t) = IsSomeAnd (find_node k cert.nodes) (λ n. HasCoveringPoint n k.entry t)
IsDutyMet cert node s (resume k q) = IfSome (find_node k cert.nodes) (λ n. IfSome n.exit (λ x. HasCoveringPoint node q (state_after_return s x k.kind)))
IsDutyMet cert node s (leave x) = IsSomeAnd node.exit (λ y. ExitCovers y x)

-- ---- needs
-- K14 holds at an entry, else it fails: the node's need is at least the sum of the state's locals,
-- one for the entry, and the entered node's need
abbrev pub EntryNeedRuleHolds : CertData → NodeData → State → Duty → Type 0
EntryNeedRuleHolds cert node s (enter k t) = IfSome (find_node k cert.nodes) (λ n. length s.locals.items + 1 + n.need ≤ node.need)
EntryNeedRuleHolds cert node s _ = Unit {0}

-- What K14 asks at a point: the need is enough for the locals and for each entry. At the entry of
-- the start frame, the need is at most the areas without the reserve.
pub record NeedRuleHolds (image : ImageData) (plan : PlanData) (cert : CertData) (node : NodeData) (point : Point) (duties : List Owed) : Type 0 where
  pub locals : length (point.state).locals.items ≤ node.need
  pub entered : All (λ d. EntryNeedRuleHolds cert node point.state d.duty) duties
  pub start : node.key ≡ start_key image plan → point.addr ≡ image.entry → node.need ≤ plan.areas - plan.reserve

-- ---- rules
-- A point that has no fault by itself: its values are of the plan's lattice, and no rule's own part
-- fails there. This is its instruction.
pub record IsLocallyFaultless (image : ImageData) (plan : PlanData) (cert : CertData) (node : NodeData) (point : Point) (shape : Shape) (n : ℕ) : Type 0 where
  pub values : AreInLattice (limits_of_cert plan cert) (point.state).regs
  pub faultless : IsFaultless (limits_of_cert plan cert) image plan node.key point.addr point.state
  pub code : IsCode image plan point.addr shape n

-- the duties of a certificate's point, by its instruction
abbrev pub duties_at_point : ImageData → PlanData → CertData → NodeData → Point → Shape → ℕ → List Owed
duties_at_point image plan cert node point shape n = duties_of (limits_of_cert plan cert) image plan node.key point.addr point.state shape n

-- rule r of certificates holds at a point, else it fails there. A value outside the plan's lattice
-- fails K2 alone; where a rule's own part fails, nothing is asked of other points or needs
pub record RuleHolds (image : ImageData) (plan : PlanData) (cert : CertData) (node : NodeData) (point : Point) (r : ℕ) : Type 0 where
  pub values : r ≡ 2 → AreInLattice (limits_of_cert plan cert) (point.state).regs
  pub own : AreInLattice (limits_of_cert plan cert) (point.state).regs → LocalRuleHoldsAtPoint (limits_of_cert plan cert) image plan node.key point.addr point.state r
  pub covered :
      (shape : Shape) (n : ℕ) (d : Owed) → IsLocallyFaultless image plan cert node point shape n → Contains (duties_at_point image plan cert node point shape n) d → d.rule ≡ r
      → IsDutyMet cert node point.state d.duty
  pub needs :
      (shape : Shape) (n : ℕ) → r ≡ 14 → IsLocallyFaultless image plan cert node point shape n
      → NeedRuleHolds image plan cert node point (duties_at_point image plan cert node point shape n)

-- K1 holds: the certificate has a node of the start frame, and its point at the entry covers the
-- start state
abbrev pub StartRuleHolds : ImageData → PlanData → CertData → Type 0
StartRuleHolds image plan cert = IsSomeAnd (find_node (start_key image plan) cert.nodes) (λ n. HasCoveringPoint n image.entry (start_state plan))

-- K2 holds at a node's entry, else it fails: there is a point, and the values of the exit, if the
-- node has one, are of the plan's lattice
pub record EntryRuleHolds (b : Limits) (node : NodeData) : Type 0 where
  pub point : IsSome (find_point (node.key).entry node.points)
  pub exit : IfSome node.exit (λ x. AreInLattice b x.lower)

-- a rule fails in a certificate, at a key and an address: K1 at the start, K2 at a node's entry, or
-- a rule at a point
pub data RuleFails (image : ImageData) (plan : PlanData) (cert : CertData) : ℕ → Key → ℕ → Type 0 where
  at_start : (StartRuleHolds image plan cert → ⊥) → RuleFails image plan cert 1 (start_key image plan) image.entry
  at_entry : (node : NodeData) → Contains cert.nodes node → (EntryRuleHolds (limits_of_cert plan cert) node → ⊥) → RuleFails image plan cert 2 node.key (node.key).entry
  at_point :
      (node : NodeData) (point : Point) (r : ℕ) → Contains cert.nodes node → Contains node.points point → (RuleHolds image plan cert node point r → ⊥)
      → RuleFails image plan cert r node.key point.addr

-- all rules of certificates hold at a node, and none fails: K2 at its entry, and each rule at each
-- point
pub record RulesHoldAtNode (image : ImageData) (plan : PlanData) (cert : CertData) (node : NodeData) : Type 0 where
  pub entry : EntryRuleHolds (limits_of_cert plan cert) node
  pub points : All (λ p. (r : ℕ) → RuleHolds image plan cert node p r) node.points

-- all rules hold in a certificate, so that it is accepted: K1 at the start, K2 at the entry of each
-- node, and each rule at each point
pub record Accepts (image : ImageData) (plan : PlanData) (cert : CertData) : Type 0 where
  pub start : StartRuleHolds image plan cert
  pub nodes : All (RulesHoldAtNode image plan cert) cert.nodes

-- ---- the first fault
-- a rule that fails in a certificate, as a number: by key, then by address, then by rule; if K1
-- holds, the first fault has the least number
abbrev pub fault_number : ℕ → Key → ℕ → ℕ
fault_number r k p = (number_of_key k * 2 ^ 32 + p) * 2 ^ 4 + r

-- a rule fails in a certificate here, and it is the first that does: K1 comes before all others; if
-- it holds, the first is the least by key, address and rule
pub record IsFirstFault (image : ImageData) (plan : PlanData) (cert : CertData) (r : ℕ) (k : Key) (p : ℕ) : Type 0 where
  pub fails : RuleFails image plan cert r k p
  pub start : (r ≡ 1) ⊎ StartRuleHolds image plan cert
  pub least : (q : ℕ) (j : Key) (x : ℕ) → RuleFails image plan cert q j x → (r ≡ 1) ⊎ (fault_number r k p ≤ fault_number q j x)

-- the need that a certificate certifies, in areas: that of the node of the start frame, 0 without
-- one
abbrev pub certified_need : ImageData → PlanData → CertData → ℕ
certified_need image plan cert = need_or_zero (find_node (start_key image plan) cert.nodes)
