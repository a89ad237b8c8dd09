-- The longest call chains of the priorities, by the heights of the nodes.
use Rattle.std.specs.Prelude.{◌≡◌, ◌≤◌, ℕ, zero, suc, List, ◌∷◌, ◌++◌, Option, Some, None, Contains, max, ◌==◌, filter, nat_eq, []}
use Rattle.std.specs.HashMap.{HashMap, get}
use Rattle.depth_cert.specs.declared.keys.Key.{Key}
use Rattle.depth_cert.specs.Nodes.{NodeData}
use Rattle.depth_cert.specs.Keys.{key_eq}
use Rattle.tcd_report.specs.declared.reports.longest_by_priority.LongestCalls.{LongestCalls}
use Rattle.elf_image.specs.Images.{ImageData}
use Rattle.tcd_plan.specs.PlanData.{PlanData}
use Rattle.depth_cert.specs.Certs.{CertData}
use Rattle.tcd_report.specs.Reports.Calls.{HasCallChain}
use Rattle.std.specs.List.{list_any, range_with_len}

-- the number is the height, in the map, of a node of this interrupt priority
abbrev pub IsHeightAtPriority : {S : Type 0} → HashMap Key ℕ S → List NodeData → ℕ → ℕ → Type 0
IsHeightAtPriority heights nodes p m = (n : NodeData) × (Contains nodes n × (((n.key).prio ≡ p) × (get key_eq heights n.key ≡ Some m)))

-- the longest call chain of a priority after one more node: the greater of the longest so far, if
-- any, and its height
abbrev pub longest_so_far : Option ℕ → ℕ → ℕ
longest_so_far None h = h
longest_so_far (Some n) h = max h n

-- the longest call chain of a priority as a list for the report: empty if the priority has no nodes
abbrev pub longest_calls_of : ℕ → Option ℕ → List LongestCalls
longest_calls_of p None = []
longest_calls_of p (Some n) = record { longest = n; prio = p } ∷ []

-- for the report: the longest call chains of the interrupt priorities below a number, ascending
unfoldable pub longest_calls_below : (ℕ → Option ℕ) → ℕ → List LongestCalls
longest_calls_below row zero = []
longest_calls_below row (suc n) = longest_calls_below row n ++ longest_calls_of n (row n)

-- n is the length of the longest call chain that begins in a node of this priority (a callee has
-- the priority of its caller)
pub record IsLongestCallChain (image : ImageData) (plan : PlanData) (cert : CertData) (prio n : ℕ) : Type 0 where
  pub node : NodeData
  pub stands : Contains cert.nodes node
  pub at_prio : (node.key).prio ≡ prio
  pub reached : HasCallChain image plan cert node n
  pub most : (other : NodeData) (m : ℕ) → Contains cert.nodes other → (other.key).prio ≡ prio → HasCallChain image plan cert other m → m ≤ n

-- the interrupt priorities below a number that nodes have, ascending
unfoldable pub priorities_below : List NodeData → ℕ → List ℕ
priorities_below nodes n = filter (λ p. list_any (λ n. (n.key).prio == p) nodes) (range_with_len 0 n)

-- the number of priorities: an interrupt's priority is one byte
unfoldable pub priority_count : ℕ
priority_count = 256

-- the interrupt priorities that nodes have, ascending
abbrev pub priorities_of : List NodeData → List ℕ
priorities_of nodes = priorities_below nodes priority_count

-- for the longest call chain of a priority: the greatest number with this property, if there is one
abbrev pub IsLongestIfAny : (ℕ → Type 0) → Option ℕ → Type 0
IsLongestIfAny P None = (m : ℕ) → P m → ⊥
IsLongestIfAny P (Some n) = P n × ((m : ℕ) → P m → m ≤ n)

-- for each interrupt priority that nodes have, the map has the length of its longest call chain, by
-- the heights of the nodes; it has no other priorities
abbrev pub AreLongestCallsByPriority : {S T : Type 0} → HashMap Key ℕ S → List NodeData → HashMap ℕ ℕ T → Type 0
AreLongestCallsByPriority heights nodes longest = (p : ℕ) → IsLongestIfAny (IsHeightAtPriority heights nodes p) (get nat_eq longest p)
