-- The first fault of a node.
use Rattle.std.specs.Prelude.{◌+◌, ◌*◌, ◌^◌, ◌<◌, ◌≤◌, ◌||◌, nat_lt, ℕ, Bool, if◌then◌else◌, min, Option, Some, unwrap_or, Contains}
use Rattle.std.specs.Option.{option_map}
use Rattle.elf_image.specs.Images.{ImageData}
use Rattle.tcd_plan.specs.PlanData.{PlanData}
use Rattle.depth_cert.specs.declared.points.Point.{Point}
use Rattle.depth_cert.specs.Nodes.{NodeData}
use Rattle.depth_cert.specs.Certs.{CertData}
use Rattle.cfg_recover.specs.RulesHoldOrFail.{limits_of_cert, RuleHolds, EntryRuleHolds, RuleFails}
use Rattle.depth_check.specs.declared.nodes.Fault.{Fault}

-- rule r at the address p is the first fault of a node
pub record IsFirstNodeFault (image : ImageData) (plan : PlanData) (cert : CertData) (node : NodeData) (r p : ℕ) : Type 0 where
  pub fails : RuleFails image plan cert r node.key p
  pub entry : (EntryRuleHolds (limits_of_cert plan cert) node → ⊥) → p * 2 ^ 4 + r ≤ (node.key).entry * 2 ^ 4 + 2
  pub points : (point : Point) (q : ℕ) → Contains node.points point → (RuleHolds image plan cert node point q → ⊥) → p * 2 ^ 4 + r ≤ point.addr * 2 ^ 4 + q
  pub rule : r ≤ 14
  pub addr : p < 2 ^ 32

-- the first of two faults: that at an address, and K2 at the entry unless it is good; an entry
-- after the address doesn't count
abbrev pub earlier_node_fault : Bool → ℕ → ℕ → Option ℕ → Option Fault
earlier_node_fault good entry addr found =
    if good || nat_lt addr entry then option_map (λ r. record { rule = r; addr = addr }) found
    else if nat_lt entry addr then Some (record { rule = 2; addr = entry })
    else Some (record { rule = min (unwrap_or found 2) 2; addr = addr })
