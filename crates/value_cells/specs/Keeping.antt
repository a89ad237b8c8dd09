-- K16: stores keep the cells' bounds.
use Rattle.std.specs.Prelude.{◌≡◌, ◌<◌, ◌≤◌, ◌+◌, ◌*◌, ◌^◌, ℕ, Bool, IsTrue, List, All, Contains}
use Rattle.elf_image.specs.Images.{ImageData}
use Rattle.tcd_plan.specs.PlanData.{PlanData}
use Rattle.tc_isa.specs.declared.shapes.Shape.{Shape}
use Rattle.tc_isa.specs.declared.shapes.Shape.TheVariants.{Store}
use Rattle.value_domain.specs.declared.states.State.{State}
use Rattle.value_domain.specs.declared.values.Val.{Val}
use Rattle.value_domain.specs.Limits.{Limits}
use Rattle.value_domain.specs.Values.{IsMember}
use Rattle.vd_transfer.specs.Registers.{reg_of}
use Rattle.vd_transfer.specs.EffectsOnStates.{address_of_access}
use Rattle.depth_cert.specs.declared.keys.Key.{Key}
use Rattle.depth_cert.specs.declared.points.Point.{Point}
use Rattle.depth_cert.specs.Keys.{number_of_key}
use Rattle.depth_cert.specs.Nodes.{NodeData}
use Rattle.depth_cert.specs.Certs.{CertData}
use Rattle.cfg_recover.specs.Code.{IsCode}
use Rattle.cfg_recover.specs.RulesHoldOrFail.{limits_of_cert}
use Rattle.value_cells.specs.declared.cells.Cell.{Cell}

-- the access from x shares a byte with the cell
abbrev pub TouchesCell : ℕ → ℕ → Cell → Type 0
TouchesCell x size c = (x < c.at + 4) × (c.at < x + size)

-- a store at the cell, of its whole word, of a value whose words are all in its bounds
pub record AccessKeepsCellBounds (v : Val) (size x : ℕ) (c : Cell) : Type 0 where
  pub word : size ≡ 4
  pub at : x ≡ c.at
  pub bounds : (w : ℕ) → IsMember w v → (c.lo ≤ w) × (w ≤ c.hi)

-- the store of the value v from x keeps each of these cells whose bytes it touches
abbrev pub AccessKeepsAllCellBounds : Val → ℕ → ℕ → List Cell → Type 0
AccessKeepsAllCellBounds v size x cells = All (λ c. TouchesCell x size c → AccessKeepsCellBounds v size x c) cells

-- each possible access of a store keeps the cells; other instructions always do
abbrev pub InstructionKeepsCellBounds : Limits → PlanData → List Cell → State → Shape → Type 0
InstructionKeepsCellBounds b plan cells s (Store src base offset size after) =
    (x : ℕ) → IsMember x (address_of_access b plan (Store src base offset size after) s) → AccessKeepsAllCellBounds (reg_of plan s src) size x cells
InstructionKeepsCellBounds b plan cells s _ = Unit {0}

-- K16 at a point of a certificate: the instruction there keeps the cells
abbrev pub PointKeepsCellBounds : Limits → ImageData → PlanData → List Cell → Point → Type 0
PointKeepsCellBounds b image plan cells point = (shape : Shape) (n : ℕ) → IsCode image plan point.addr shape n → InstructionKeepsCellBounds b plan cells point.state shape

-- K16, at each point of a certificate under the plan with cells.
abbrev pub CertKeepsCellBounds : ImageData → PlanData → List Cell → CertData → Type 0
CertKeepsCellBounds image plan cells cert =
    (node : NodeData) (point : Point) → Contains cert.nodes node → Contains node.points point → PointKeepsCellBounds (limits_of_cert plan cert) image plan cells point

-- K16 fails at a key and an address
pub data FailsRule16At (image : ImageData) (plan : PlanData) (cells : List Cell) (cert : CertData) : Key → ℕ → Type 0 where
  breaks_at :
      (node : NodeData) (point : Point) → Contains cert.nodes node → Contains node.points point → (PointKeepsCellBounds (limits_of_cert plan cert) image plan cells point → ⊥)
      → FailsRule16At image plan cells cert node.key point.addr

-- the number by which places where K16 can fail are ordered: by key, then by address
abbrev pub rule_16_place_number : Key → ℕ → ℕ
rule_16_place_number k p = number_of_key k * 2 ^ 32 + p

-- K16 fails at this key and address, and at no lesser key or address
pub record IsFirstRule16Fault (image : ImageData) (plan : PlanData) (cells : List Cell) (cert : CertData) (k : Key) (p : ℕ) : Type 0 where
  pub breaks : FailsRule16At image plan cells cert k p
  pub least : (j : Key) (x : ℕ) → FailsRule16At image plan cells cert j x → rule_16_place_number k p ≤ rule_16_place_number j x

-- K16 fails at an address of a node's points, and at no lesser one
pub record IsFirstRule16NodeFault (b : Limits) (image : ImageData) (plan : PlanData) (cells : List Cell) (node : NodeData) (p : ℕ) : Type 0 where
  pub point : Point
  pub stands : Contains node.points point
  pub addr : point.addr ≡ p
  pub breaks : PointKeepsCellBounds b image plan cells point → ⊥
  pub least : (other : Point) → Contains node.points other → (PointKeepsCellBounds b image plan cells other → ⊥) → p ≤ other.addr

-- a store whose address can be any word of `at` keeps this cell, if it touches the cell
abbrev pub StoreKeepsCellBounds : Val → ℕ → Val → Cell → Type 0
StoreKeepsCellBounds at size v c = (x : ℕ) → IsMember x at → TouchesCell x size c → AccessKeepsCellBounds v size x c

-- all words of a value are in lo..=hi
abbrev pub AreWithinCellBounds : Val → ℕ → ℕ → Type 0
AreWithinCellBounds v lo hi = (w : ℕ) → IsMember w v → (lo ≤ w) × (w ≤ hi)

-- a store of the cell's size, and only of words in the cell's bounds
abbrev pub FitsCell : Val → ℕ → Cell → Type 0
FitsCell v size c = (size ≡ 4) × AreWithinCellBounds v c.lo c.hi

-- x is no possible address of a store, or is the cell's address, and the store fits the cell
abbrev pub IsStoreAllowedAt : Val → Bool → ℕ → ℕ → Type 0
IsStoreAllowedAt at fits cell x = IsMember x at → IsTrue fits × (x ≡ cell)
