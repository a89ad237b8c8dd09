-- What the rules ask at a point of an accepted certificate.
use Rattle.std.proofs.Common.{◌≡◌, ℕ, ◌-◌, ◌*◌, ◌/◌, ◌≤◌, List, length, Some, refl, sym, subst, arith, ◌==◌, All, Contains}
use Rattle.std.proofs.lemmas.Bool.{eqb-true, cond_both}
use Rattle.std.proofs.lemmas.List.Elements.{All-contains}
use Rattle.elf_image.specs.Images.{ImageData}
use Rattle.tcd_plan.specs.PlanData.{PlanData}
use Rattle.tc_isa.specs.declared.shapes.Shape.{Shape}
use Rattle.value_domain.specs.declared.states.State.{State}
use Rattle.value_domain.specs.Limits.{AreLimits}
use Rattle.value_domain.specs.State.{AreInLattice}
use Rattle.value_domain.specs.VersionLimits.{limits_for}
use Rattle.depth_cert.specs.declared.keys.Key.{Key}
use Rattle.depth_cert.specs.declared.points.Point.{Point}
use Rattle.depth_cert.specs.Keys.{number_of_key, IsKey}
use Rattle.depth_cert.specs.Points.{find_point, IsPoint}
use Rattle.depth_cert.specs.Nodes.{NodeData, IsNode, find_node}
use Rattle.depth_cert.specs.Certs.{CertData, IsCert}
use Rattle.depth_cert.proofs.KeyLaws.{found_in, one_number}
use Rattle.cfg_recover.specs.Code.{IsCode, HasCode}
use Rattle.cfg_recover.specs.Entries.{start_key}
use Rattle.cfg_recover.specs.LocalRules.{LocalRuleHolds}
use Rattle.cfg_recover.specs.LocalFaults.{IsFaultless}
use Rattle.cfg_recover.specs.Duties.{Owed, duties_of}
use Rattle.cfg_recover.specs.RulesHoldOrFail.{limits_of_cert, IsDutyMet, EntryNeedRuleHolds, RuleHolds, NeedRuleHolds, RulesHoldAtNode, Accepts}

-- ---- limits
pub limits_are : (plan : PlanData) (version : ℕ) → AreLimits (limits_for plan version)
limits_are plan version =
    record {
      wide = cond_both (version == 1) 64 128 (λ w. 64 ≤ w) (λ _. omega arith) (λ _. omega arith);
      narrow = cond_both (version == 1) 64 128 (λ w. w ≤ 128) (λ _. omega arith) (λ _. omega arith);
      few_locals = cond_both (version == 1) 4 8 (λ w. w ≤ 8) (λ _. omega arith) (λ _. omega arith);
    }

-- ---- points
-- what a point of a node owes
abbrev pub duties_at : ImageData → PlanData → CertData → NodeData → ℕ → State → Shape → ℕ → List Owed
duties_at image plan cert node p s shape n = duties_of (limits_of_cert plan cert) image plan node.key p s shape n

-- what the rules ask at a point of a node
pub record PointHolds (image : ImageData) (plan : PlanData) (cert : CertData) (node : NodeData) (p : ℕ) (s : State) (shape : Shape) (size : ℕ) : Type 0 where
  pub code : IsCode image plan p shape size
  pub regs : length s.regs ≡ 27
  pub values : AreInLattice (limits_of_cert plan cert) s.regs
  pub own : (r : ℕ) → LocalRuleHolds (limits_of_cert plan cert) plan node.key p s shape r
  pub met : (d : Owed) → Contains (duties_at image plan cert node p s shape size) d → IsDutyMet cert node s d.duty
  pub locals : length s.locals.items ≤ node.need
  pub entered : (d : Owed) → Contains (duties_at image plan cert node p s shape size) d → EntryNeedRuleHolds cert node s d.duty
  pub start : node.key ≡ start_key image plan → p ≡ image.entry → node.need ≤ plan.areas - plan.reserve

pub record PointRules (image : ImageData) (plan : PlanData) (cert : CertData) (node : NodeData) (p : ℕ) (s : State) : Type 0 where
  pub shape : Shape
  pub size : ℕ
  pub holds : PointHolds image plan cert node p s shape size

-- the node is one of the certificate's
abbrev pub Stands : CertData → NodeData → Type 0
Stands cert node = find_node (node.key) cert.nodes ≡ Some node

module _ (image : ImageData) (plan : PlanData) (cert : CertData) (is_cert : IsCert cert) (accepted : Accepts image plan cert) where
  stands_in : (node : NodeData) → Stands cert node → Contains cert.nodes node
  stands_in node stands = (found_in (λ n. number_of_key n.key == number_of_key node.key) cert.nodes node stands).0

  pub node_is : (node : NodeData) → Stands cert node → IsNode cert.version node
  node_is node stands = All-contains (IsNode cert.version) cert.nodes node is_cert.nodes (stands_in node stands)

  rules_of_node : (node : NodeData) → Stands cert node → RulesHoldAtNode image plan cert node
  rules_of_node node stands = All-contains (RulesHoldAtNode image plan cert) cert.nodes node accepted.nodes (stands_in node stands)

  rules_at_point : (node : NodeData) (point : Point) → Stands cert node → Contains node.points point → PointRules image plan cert node point.addr point.state
  rules_at_point node point stands there =
      let all : (r : ℕ) → RuleHolds image plan cert node point r = All-contains (λ p. (r : ℕ) → RuleHolds image plan cert node p r) node.points point (rules_of_node node stands).points there in
      let values : AreInLattice (limits_of_cert plan cert) (point.state).regs = (all 2).values refl in
      let faultless : IsFaultless (limits_of_cert plan cert) image plan node.key point.addr point.state = λ r. (all r).own values in
      let has : HasCode image plan point.addr = (faultless 3).code refl in
      let needs : NeedRuleHolds image plan cert node point (duties_of (limits_of_cert plan cert) image plan node.key point.addr point.state has.shape has.size) = (all 14).needs has.shape has.size refl (record { values = values; faultless = faultless; code = has.code }) in
      let is : IsPoint cert.version point = All-contains (IsPoint cert.version) node.points point (node_is node stands).points there in
      record {
        shape = has.shape;
        size = has.size;
        holds = record {
          code = has.code;
          regs = (is.state).regs;
          values = values;
          own = λ r. (faultless r).own has.shape has.size has.code;
          met = λ d c. (all d.rule).covered has.shape has.size d (record { values = values; faultless = faultless; code = has.code }) c refl;
          locals = needs.locals;
          entered = λ d c. All-contains (λ d. EntryNeedRuleHolds cert node point.state d.duty) _ d needs.entered c;
          start = needs.start;
        };
      }

  pub rules_at : (node : NodeData) (q : ℕ) (point : Point) → Stands cert node → find_point q node.points ≡ Some point → PointRules image plan cert node q point.state
  rules_at node q point stands found =
      let there = found_in (λ p. p.addr == q) node.points point found in
      subst (λ x. PointRules image plan cert node x point.state) (eqb-true _ _ there.1) (rules_at_point node point stands there.0)

  -- at a point there is code, and its address is even
  pub even_at : (node : NodeData) (q : ℕ) (point : Point) → Stands cert node → find_point q node.points ≡ Some point → q / 2 * 2 ≡ q
  even_at node q point stands found = let e = (((rules_at node q point stands found).holds).code).even in omega arith

  -- the node of a key
  pub record Found (k : Key) (n : NodeData) : Type 0 where
    pub stands : Stands cert n
    pub key : n.key ≡ k

  pub node_found : (k : Key) (n : NodeData) → IsKey k → find_node k cert.nodes ≡ Some n → Found k n
  node_found k n small found =
      let there = found_in (λ n. number_of_key n.key == number_of_key k) cert.nodes n found in
      let all : All (IsNode cert.version) cert.nodes = is_cert.nodes in
      let same = one_number n.key k (All-contains (IsNode cert.version) cert.nodes n all there.0).key small (eqb-true _ _ there.1) in
      record { stands = subst (λ j. find_node j cert.nodes ≡ Some n) (sym same) found; key = same }
