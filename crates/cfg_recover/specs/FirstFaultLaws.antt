-- What the first fault and the certified need are, in the words of the printed lines: the
-- statements of the laws that guard these definitions.
use Rattle.std.specs.Prelude.{◌≡◌, ◌^◌, ◌<◌, ◌≤◌, ◌⊎◌, ℕ, Contains, Some}
use Rattle.elf_image.specs.Images.{ImageData}
use Rattle.tcd_plan.specs.PlanData.{PlanData}
use Rattle.depth_cert.specs.declared.keys.Key.{Key}
use Rattle.depth_cert.specs.declared.points.Point.{Point}
use Rattle.depth_cert.specs.Keys.{number_of_key}
use Rattle.depth_cert.specs.Nodes.{NodeData, find_node}
use Rattle.depth_cert.specs.Certs.{CertData, IsCert}
use Rattle.cfg_recover.specs.RulesHoldOrFail.{Accepts, RuleHolds, StartRuleHolds, EntryRuleHolds, IsFirstFault, certified_need, limits_of_cert}

-- a place that a first fault may name since a rule fails there: the start's entry for K1, a node's
-- entry for K2, or a point of a node
pub data IsFaultPlace (image : ImageData) (plan : PlanData) (cert : CertData) : ℕ → Key → ℕ → Type 0 where
  start : (StartRuleHolds image plan cert → ⊥) → IsFaultPlace image plan cert 1 (record { kind = 0; entry = image.entry; prio = 0; is = plan.start_is }) image.entry
  entry : (node : NodeData) → Contains cert.nodes node → (EntryRuleHolds (limits_of_cert plan cert) node → ⊥) → IsFaultPlace image plan cert 2 node.key (node.key).entry
  point :
      (node : NodeData) (point : Point) (r : ℕ) → Contains cert.nodes node → Contains node.points point
      → (RuleHolds image plan cert node point r → ⊥) → IsFaultPlace image plan cert r node.key point.addr

-- the order in which the first fault is the first: one is before another, or equal to it, by key
-- (kind, entry, prio, is), then by address, then by rule
abbrev pub IsFaultNotAfter : ℕ → Key → ℕ → ℕ → Key → ℕ → Type 0
IsFaultNotAfter r k p q j x =
    (number_of_key k < number_of_key j) ⊎ (number_of_key k ≡ number_of_key j) × ((p < x) ⊎ (p ≡ x) × (r ≤ q))

-- The printed rule is 1 to 14 and the printed address is a word. They name a place where that rule
-- doesn't hold; K1 is at the start. If K1 holds, all other faults come later.
pub record FirstFaultNamesFirstFailure (image : ImageData) (plan : PlanData) (cert : CertData) (r : ℕ) (k : Key) (p : ℕ) : Type 0 where
  pub some : 1 ≤ r
  pub most : r ≤ 14
  pub addr : p < 2 ^ 32
  pub one : r ≡ 1 → (k ≡ record { kind = 0; entry = image.entry; prio = 0; is = plan.start_is }) × (p ≡ image.entry)
  pub place : IsFaultPlace image plan cert r k p
  pub start : (r ≡ 1) ⊎ StartRuleHolds image plan cert
  pub first : (q : ℕ) (j : Key) (x : ℕ) → IsFaultPlace image plan cert q j x → (r ≡ 1) ⊎ IsFaultNotAfter r k p q j x
  pub refuted : Accepts image plan cert → ⊥

-- a law of what is printed: a first fault names the first place where a rule fails
abbrev pub FirstFaultsNameFirstFailures : Type 0
FirstFaultsNameFirstFailures =
    (image : ImageData) (plan : PlanData) (cert : CertData) (r : ℕ) (k : Key) (p : ℕ) → image.entry < 2 ^ 32 → IsCert cert
    → IsFirstFault image plan cert r k p → FirstFaultNamesFirstFailure image plan cert r k p

-- a law beside that of the first fault: the certified need, printed where there is no fault, is
-- that of the certificate's node of the start
abbrev pub CertifiedNeedIsOfStart : Type 0
CertifiedNeedIsOfStart =
    (image : ImageData) (plan : PlanData) (cert : CertData) (node : NodeData)
    → find_node (record { kind = 0; entry = image.entry; prio = 0; is = plan.start_is }) cert.nodes ≡ Some node
    → certified_need image plan cert ≡ node.need
