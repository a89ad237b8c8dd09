-- The length of the longest call chain that begins in each node (its height), in a map by keys.
use Rattle.std.specs.Prelude.{◌≡◌, ◌≤◌, ◌⊎◌, ℕ, suc, List, Some, Contains}
use Rattle.std.specs.HashMap.{HashMap, get}
use Rattle.elf_image.specs.Images.{ImageData}
use Rattle.tcd_plan.specs.PlanData.{PlanData}
use Rattle.depth_cert.specs.declared.keys.Key.{Key}
use Rattle.depth_cert.specs.declared.points.Point.{Point}
use Rattle.depth_cert.specs.Nodes.{NodeData}
use Rattle.depth_cert.specs.Certs.{CertData}
use Rattle.tcd_report.specs.Reports.Calls.{CallsAt, HasCallChain}
use Rattle.depth_cert.specs.Keys.{key_eq, call_kind}
use Rattle.cfg_recover.specs.Entries.{entered_key}

-- for heights of nodes: n is the greatest number with this property, or 0 if there is none
pub record IsGreatestHeight (P : ℕ → Type 0) (n : ℕ) : Type 0 where
  pub reached : (n ≡ 0) ⊎ P n
  pub most : (m : ℕ) → P m → m ≤ n

-- n is the greatest number that an element of a list has, or 0 if there is none
abbrev pub IsGreatestHeightInList : {A : Type 0} → (A → ℕ → Type 0) → List A → ℕ → Type 0
IsGreatestHeightInList {A = A} Has xs n = IsGreatestHeight (λ m. (x : A) × (Contains xs x × Has x m)) n

-- m is the length of the longest call chain through the callee with key k: its height in the map,
-- plus 1
abbrev pub IsHeightThroughCallee : {S : Type 0} → HashMap Key ℕ S → Key → ℕ → Type 0
IsHeightThroughCallee heights k m = (h : ℕ) × ((get key_eq heights k ≡ Some h) × (m ≡ suc h))

-- m is the length of the longest call chain through the function at address `target` that a frame
-- with key k calls: its height in the map, plus 1
abbrev pub IsHeightThroughTarget : {S : Type 0} → HashMap Key ℕ S → Key → ℕ → ℕ → Type 0
IsHeightThroughTarget heights k target m = IsHeightThroughCallee heights (entered_key k call_kind target) m

-- m is the length of the longest call chain through a function that a point calls: its height in
-- the map, plus 1
abbrev pub IsHeightThroughCall : {S : Type 0} → ImageData → PlanData → CertData → HashMap Key ℕ S → Key → Point → ℕ → Type 0
IsHeightThroughCall image plan cert heights key point m = (k : Key) × (CallsAt image plan cert key point k × IsHeightThroughCallee heights k m)

-- no height in the map is above 4,096
abbrev pub AreHeightsBounded : {S : Type 0} → HashMap Key ℕ S → Type 0
AreHeightsBounded heights = (k : Key) (h : ℕ) → get key_eq heights k ≡ Some h → h ≤ 4096

-- h is the length of the longest call chain that begins in a node
pub record IsHeight (image : ImageData) (plan : PlanData) (cert : CertData) (node : NodeData) (h : ℕ) : Type 0 where
  pub reached : HasCallChain image plan cert node h
  pub most : (m : ℕ) → HasCallChain image plan cert node m → m ≤ h

-- a node with this key has this height
pub record HasNodeHeight (image : ImageData) (plan : PlanData) (cert : CertData) (k : Key) (h : ℕ) : Type 0 where
  pub node : NodeData
  pub stands : Contains cert.nodes node
  pub key : node.key ≡ k
  pub height : IsHeight image plan cert node h

-- each number in the map is the height of the node with its key
abbrev pub AreNodeHeights : {S : Type 0} → ImageData → PlanData → CertData → HashMap Key ℕ S → Type 0
AreNodeHeights image plan cert heights = (k : Key) (h : ℕ) → get key_eq heights k ≡ Some h → HasNodeHeight image plan cert k h

-- the map has a height for each of these nodes
abbrev pub HasHeightOfEachNode : {S : Type 0} → List NodeData → HashMap Key ℕ S → Type 0
HasHeightOfEachNode nodes heights = (n : NodeData) → Contains nodes n → (h : ℕ) × (get key_eq heights n.key ≡ Some h)

-- the map has a height for each of these keys
abbrev pub HasHeights : {S : Type 0} → HashMap Key ℕ S → List (ℕ × Key) → Type 0
HasHeights heights ranks = (r : ℕ × Key) → Contains ranks r → (h : ℕ) × (get key_eq heights r.1 ≡ Some h)

-- a node's need with its key; sorted by these pairs, the nodes of an accepted certificate have
-- callees before callers
abbrev pub need_with_key : NodeData → ℕ × Key
need_with_key n = (n.need, n.key)
