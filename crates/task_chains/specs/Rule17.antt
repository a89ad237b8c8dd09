-- K17: what the code of a task must not do, since the task's view hides it.
use Rattle.std.specs.Prelude.{◌≡◌, ◌≢◌, ◌+◌, ◌*◌, ◌%◌, ◌^◌, ◌<◌, ◌≤◌, ◌⊎◌, ℕ, false, All, Contains}
use Rattle.depth_cert.specs.Keys.{number_of_key}
use Rattle.elf_image.specs.Images.{ImageData}
use Rattle.tcd_plan.specs.PlanData.{PlanData}
use Rattle.tc_isa.specs.declared.shapes.Shape.{Shape}
use Rattle.tc_isa.specs.declared.shapes.Shape.TheVariants.{Load, Bisr, Mfcr}
use Rattle.value_domain.specs.declared.values.Val.{Val}
use Rattle.value_domain.specs.declared.states.State.{State}
use Rattle.value_domain.specs.Limits.{Limits}
use Rattle.value_domain.specs.Values.{IsMember}
use Rattle.vd_transfer.specs.EffectsOnStates.{address_of_access}
use Rattle.depth_cert.specs.declared.keys.Key.{Key}
use Rattle.depth_cert.specs.declared.points.Point.{Point}
use Rattle.depth_cert.specs.Nodes.{NodeData}
use Rattle.depth_cert.specs.Certs.{CertData}
use Rattle.cfg_recover.specs.Code.{IsCode}
use Rattle.cfg_recover.specs.RulesHoldOrFail.{limits_of_cert}
use Rattle.task_chains.specs.Tasks.{TasksData}
use Rattle.task_chains.specs.SwitchRoutine.{routine_size, switch_key, IsRoutineInstruction}

-- K17 for one access of a task: its n bytes from x on, which can wrap at 2^32, are none of the
-- `len` bytes from `from` on
abbrev pub IsAccessOutside : ℕ → ℕ → ℕ → ℕ → Type 0
IsAccessOutside x n from len = (i : ℕ) → i < n → ((x + i) % 2 ^ 32 < from) ⊎ (from + len ≤ (x + i) % 2 ^ 32)

-- K17 for a load of a task: no access of n bytes, at an address that is a word of the value, shares
-- a byte with the `len` bytes from `from` on
abbrev pub AreAccessesOutside : Val → ℕ → ℕ → ℕ → Type 0
AreAccessesOutside v n from len = (x : ℕ) → IsMember x v → IsAccessOutside x n from len

-- a load reaches no save area and no byte of the routine
abbrev pub LoadMissesAreasAndRoutine : Limits → PlanData → TasksData → State → Shape → Type 0
LoadMissesAreasAndRoutine b plan tasks s (Load dst base offset size signed after) =
    AreAccessesOutside (address_of_access b plan (Load dst base offset size signed after) s) size plan.csa_at (64 * plan.areas)
    × AreAccessesOutside (address_of_access b plan (Load dst base offset size signed after) s) size tasks.switch routine_size
LoadMissesAreasAndRoutine b plan tasks s _ = Unit {0}

-- a part of K17: no MFCR reads PCXI, FCX or LCX
abbrev pub ReadsNoContextRegister : Shape → Type 0
ReadsNoContextRegister (Mfcr dst number) = (number ≢ 0xfe00) × (number ≢ 0xfe38) × (number ≢ 0xfe3c)
ReadsNoContextRegister _ = Unit {0}

-- a part of K17: the instruction is no BISR, which would set CCPN and enable interrupts
abbrev pub IsNoBisr : Shape → Type 0
IsNoBisr (Bisr c) = ⊥
IsNoBisr _ = Unit {0}

-- K17 at a point with an instruction of this shape
pub record KeepsRule17ByShape (b : Limits) (plan : PlanData) (tasks : TasksData) (key : Key) (p : ℕ) (s : State) (shape : Shape) : Type 0 where
  pub inside : tasks.switch ≤ p → p < tasks.switch + routine_size → key ≡ switch_key tasks
  pub at : key ≡ switch_key tasks → (i : ℕ) × (i < 18) × (p ≡ tasks.switch + 4 * i)
  pub loads : LoadMissesAreasAndRoutine b plan tasks s shape
  pub links : ReadsNoContextRegister shape
  pub level : key.prio ≡ 0 → key.is ≡ false → IsNoBisr shape

-- K17 at a point of a view's certificate
abbrev pub KeepsRule17AtCertPoint : ImageData → PlanData → TasksData → CertData → NodeData → Point → Type 0
KeepsRule17AtCertPoint view plan tasks cert node point =
    (shape : Shape) (n : ℕ) → IsCode view plan point.addr shape n → KeepsRule17ByShape (limits_of_cert plan cert) plan tasks node.key point.addr point.state shape

-- K17 at all points of a view's certificate
abbrev pub KeepsRule17 : ImageData → PlanData → TasksData → CertData → Type 0
KeepsRule17 view plan tasks cert = All (λ node. All (λ point. KeepsRule17AtCertPoint view plan tasks cert node point) node.points) cert.nodes

-- K17 fails at a key and an address
pub data BreaksRule17 (view : ImageData) (plan : PlanData) (tasks : TasksData) (cert : CertData) : Key → ℕ → Type 0 where
  at_point :
      (node : NodeData) (point : Point) → Contains cert.nodes node → Contains node.points point → (KeepsRule17AtCertPoint view plan tasks cert node point → ⊥)
      → BreaksRule17 view plan tasks cert node.key point.addr

-- k and p are the least key and address at which K17 fails
pub record IsRule17Fault (view : ImageData) (plan : PlanData) (tasks : TasksData) (cert : CertData) (k : Key) (p : ℕ) : Type 0 where
  pub fails : BreaksRule17 view plan tasks cert k p
  pub least : (j : Key) (x : ℕ) → BreaksRule17 view plan tasks cert j x → number_of_key k * 2 ^ 32 + p ≤ number_of_key j * 2 ^ 32 + x

-- for K17 at a point: some word of the value, at which an access begins, is in low..=high
abbrev pub HasAccessBetween : Val → ℕ → ℕ → Type 0
HasAccessBetween v low high = (x : ℕ) × IsMember x v × (low ≤ x) × (x ≤ high)

-- the routine's frame has points only at the routine's instructions, and no other frame has one in
-- the routine
pub record MayHavePointAt (tasks : TasksData) (key : Key) (p : ℕ) : Type 0 where
  pub inside : tasks.switch ≤ p → p < tasks.switch + routine_size → key ≡ switch_key tasks
  pub at : key ≡ switch_key tasks → IsRoutineInstruction tasks p

-- K17 at a point of a frame, under these limits
abbrev pub KeepsRule17AtPoint : Limits → ImageData → PlanData → TasksData → Key → Point → Type 0
KeepsRule17AtPoint b view plan tasks key point = (shape : Shape) (n : ℕ) → IsCode view plan point.addr shape n → KeepsRule17ByShape b plan tasks key point.addr point.state shape

-- K17 at all points of a node, under these limits
abbrev pub KeepsRule17InNode : Limits → ImageData → PlanData → TasksData → NodeData → Type 0
KeepsRule17InNode b view plan tasks node = All (KeepsRule17AtPoint b view plan tasks node.key) node.points

-- p is the least address of a node's points at which K17 fails
pub record IsRule17NodeFault (b : Limits) (view : ImageData) (plan : PlanData) (tasks : TasksData) (node : NodeData) (p : ℕ) : Type 0 where
  pub point : Point
  pub stands : Contains node.points point
  pub addr : point.addr ≡ p
  pub fails : KeepsRule17AtPoint b view plan tasks node.key point → ⊥
  pub least : (other : Point) → Contains node.points other → (KeepsRule17AtPoint b view plan tasks node.key other → ⊥) → p ≤ other.addr
