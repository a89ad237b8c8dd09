-- The first fault of a certificate, from those of its nodes one after another.
use Rattle.std.proofs.Common.{◌≡◌, ℕ, ◌≤◌, ◌<◌, ◌+◌, ◌*◌, ◌^◌, ◌-◌, List, length, get_or, take, map, Option, Some, None, arith, inl, inr, refl, subst, sym, ◌==◌}
use Rattle.std.specs.Prelude.{All, Contains, IsSomeAnd}
use Rattle.std.proofs.lemmas.Bool.{eqb-true}
use Rattle.std.specs.List.Sorted.{IsStrictlyIncreasing}
use Rattle.std.proofs.lemmas.List.Elements.{All-contains}
use Rattle.elf_image.specs.Images.{ImageData}
use Rattle.tcd_plan.specs.PlanData.{PlanData}
use Rattle.depth_cert.specs.declared.keys.Key.{Key}
use Rattle.depth_cert.specs.declared.points.Point.{Point}
use Rattle.depth_cert.specs.Keys.{number_of_key}
use Rattle.depth_cert.specs.Points.{find_point}
use Rattle.depth_cert.specs.Nodes.{NodeData, IsNode, find_node}
use Rattle.depth_cert.proofs.KeyLaws.{found_in, one_number}
use Rattle.depth_cert.specs.Certs.{CertData, IsCert}
use Rattle.value_domain.specs.State.{Covers}
use Rattle.cfg_recover.specs.LocalFaults.{IsFaultless}
use Rattle.cfg_recover.specs.Entries.{start_key, start_state}
use Rattle.cfg_recover.specs.RulesHoldOrFail.{limits_of_cert, RuleHolds, HasCoveringPoint, StartRuleHolds, EntryRuleHolds, RulesHoldAtNode, Accepts, RuleFails, at_start, at_entry, at_point, fault_number, IsFirstFault}
use Rattle.depth_check.specs.NodeFaults.{IsFirstNodeFault}
use Rattle.cfg_recover.proofs.FirstFault.{place_of}

-- ---- a fault refutes an accepted certificate

-- ---- the first fault
pub start_first : (image : ImageData) (plan : PlanData) (cert : CertData) → (StartRuleHolds image plan cert → ⊥) → IsFirstFault image plan cert 1 (start_key image plan) image.entry
start_first image plan cert wrong = record { fails = at_start wrong; start = inl refl; least = λ q j x f. inl refl }

-- faults of nodes with greater keys come later
later_key : (r p k q x m : ℕ) → r ≤ 14 → p < 2 ^ 32 → k < m → (k * 2 ^ 32 + p) * 2 ^ 4 + r ≤ (m * 2 ^ 32 + x) * 2 ^ 4 + q
later_key r p k q x m small addr above = omega arith

module _ (image : ImageData) (plan : PlanData) (cert : CertData) (is_cert : IsCert cert) (start : StartRuleHolds image plan cert) (nodes : List NodeData) (same : nodes ≡ cert.nodes) where
  abbrev Number : NodeData → ℕ
  Number n = number_of_key n.key

  -- the node at i has a fault, and all before hold
  least_at : (i : ℕ) (node other : NodeData) (r p q x : ℕ) → i < length nodes → node ≡ get_or nodes i node → All (RulesHoldAtNode image plan cert) (take i nodes) → IsFirstNodeFault image plan cert node r p → Contains cert.nodes other
      → (RulesHoldAtNode image plan cert other → ⊥) → (other ≡ node → p * 2 ^ 4 + r ≤ x * 2 ^ 4 + q) → fault_number r node.key p ≤ fault_number q other.key x
  least_at i node other r p q x lt at before f member wrong here =
      let up = subst (λ (l : List NodeData). IsStrictlyIncreasing (map Number l)) (sym same) is_cert.rising in
      elim (place_of Number nodes i other node up lt at (subst (λ (l : List NodeData). Contains l other) (sym same) member)) [
        | inl earlier ↦ absurd (wrong (All-contains (RulesHoldAtNode image plan cert) (take i nodes) other before earlier))
        | inr later ↦
            elim later [
              | inl e ↦ subst (λ (n : NodeData). fault_number r node.key p ≤ fault_number q n.key x) (sym e) (omega (arith, here e))
              | inr above ↦ later_key r p (Number node) q x (Number other) f.rule f.addr above
            ]
      ]

  least_of_all : (i : ℕ) (node : NodeData) (r p q : ℕ) (j : Key) (x : ℕ) → i < length nodes → node ≡ get_or nodes i node → All (RulesHoldAtNode image plan cert) (take i nodes) → IsFirstNodeFault image plan cert node r p
      → RuleFails image plan cert q j x → fault_number r node.key p ≤ fault_number q j x
  least_of_all i node r p _ _ _ lt at before f (at_start wrong) = absurd (wrong start)
  least_of_all i node r p _ _ _ lt at before f (at_entry other member wrong) =
      least_at i node other r p 2 ((other.key).entry) lt at before f member (λ h. wrong h.entry)
      (λ e. subst (λ (n : NodeData). p * 2 ^ 4 + r ≤ (n.key).entry * 2 ^ 4 + 2) (sym e) (f.entry (subst (λ (n : NodeData). EntryRuleHolds (limits_of_cert plan cert) n → ⊥) e wrong)))
  least_of_all i node r p _ _ _ lt at before f (at_point other point q member stands wrong) =
      least_at i node other r p q point.addr lt at before f member
      (λ h. wrong (All-contains (λ (p : Point). (r : ℕ) → RuleHolds image plan cert other p r) other.points point h.points stands q))
      (λ e. f.points point q (subst (λ (n : NodeData). Contains n.points point) e stands) (subst (λ (n : NodeData). RuleHolds image plan cert n point q → ⊥) e wrong))

  pub node_first : (i : ℕ) (node : NodeData) (r p : ℕ) → i < length nodes → node ≡ get_or nodes i node → All (RulesHoldAtNode image plan cert) (take i nodes) → IsFirstNodeFault image plan cert node r p
      → IsFirstFault image plan cert r node.key p
  node_first i node r p lt at before f = record { fails = f.fails; start = inr start; least = λ q j x fails. inr (least_of_all i node r p q j x lt at before f fails) }

-- ---- an accepted certificate
-- the start's need leaves the reserve free, as K14 asks at the entry's point
need_at : (image : ImageData) (plan : PlanData) (cert : CertData) (node : NodeData) (point : Point) → ((r : ℕ) → RuleHolds image plan cert node point r) → node.key ≡ start_key image plan → point.addr ≡ image.entry
    → node.need ≤ plan.areas - plan.reserve
need_at image plan cert node point holds key addr =
    let values = (holds 2).values refl in
    let faultless : IsFaultless (limits_of_cert plan cert) image plan node.key point.addr point.state = λ r. (holds r).own values in
    let code = (faultless 3).code refl in
    ((holds 14).needs code.shape code.size refl (record { values = values; faultless = faultless; code = code.code })).start key addr

point_holds : (image : ImageData) (plan : PlanData) (cert : CertData) (node : NodeData) (found : Option Point) → find_point image.entry node.points ≡ found → IsSomeAnd found (λ p. Covers p.state (start_state plan))
    → RulesHoldAtNode image plan cert node → node.key ≡ start_key image plan → node.need ≤ plan.areas - plan.reserve
point_holds image plan cert node None e h holds key = absurd h
point_holds image plan cert node (Some point) e h holds key =
    let at = found_in (λ (p : Point). p.addr == image.entry) node.points point e in
    need_at image plan cert node point (All-contains (λ (p : Point). (r : ℕ) → RuleHolds image plan cert node p r) node.points point holds.points at.0) key (eqb-true _ _ at.1)

pub need_small : (image : ImageData) (plan : PlanData) (cert : CertData) (node : NodeData) → image.entry < 2 ^ 32 → IsCert cert → Accepts image plan cert → find_node (start_key image plan) cert.nodes ≡ Some node
    → node.need ≤ plan.areas - plan.reserve
need_small image plan cert node entry is_cert accepts found =
    let at = found_in (λ (n : NodeData). number_of_key n.key == number_of_key (start_key image plan)) cert.nodes node found in
    let of_node = All-contains (IsNode cert.version) cert.nodes node is_cert.nodes at.0 in
    let key = one_number node.key (start_key image plan) of_node.key (record { kind = omega arith; entry = entry; prio = omega arith }) (eqb-true _ _ at.1) in
    let start : HasCoveringPoint node image.entry (start_state plan) = rw found at accepts.start in
    point_holds image plan cert node (find_point image.entry node.points) refl start (All-contains (RulesHoldAtNode image plan cert) cert.nodes node accepts.nodes at.0) key
