-- The least rule whose own part fails.
use Rattle.std.specs.Prelude.{◌≡◌, ◌<◌, ◌⊎◌, ℕ, Option, Some, None}
use Rattle.elf_image.specs.Images.{ImageData}
use Rattle.tcd_plan.specs.PlanData.{PlanData}
use Rattle.tc_isa.specs.Insts.{InstData}
use Rattle.tc_isa.specs.Meanings.{shape_of}
use Rattle.tc_isa.specs.declared.shapes.Shape.{Shape}
use Rattle.value_domain.specs.declared.states.State.{State}
use Rattle.value_domain.specs.Limits.{Limits}
use Rattle.depth_cert.specs.declared.keys.Key.{Key}
use Rattle.cfg_recover.specs.Code.{IsCode}
use Rattle.cfg_recover.specs.LocalRules.{StoresInRange, IsAccessAllowed, LocalRuleHolds, LocalRuleHoldsAtPoint}
use Rattle.tc_isa.specs.InBounds.{IsShapeInBounds}
use Rattle.cfg_recover.specs.declared.local_rules.Located.{Located}

-- The own part of this rule fails for the shape, and that of each lesser one holds; if there is no
-- such rule, all hold.
abbrev pub IsLeastLocalFault : Limits → PlanData → Key → ℕ → State → Shape → Option ℕ → Type 0
IsLeastLocalFault b plan key p s shape (Some r) = (LocalRuleHolds b plan key p s shape r → ⊥) × ((q : ℕ) → q < r → LocalRuleHolds b plan key p s shape q)
IsLeastLocalFault b plan key p s shape None = (r : ℕ) → LocalRuleHolds b plan key p s shape r

-- r is the least rule whose own part fails at the point p
pub record IsLocalFault (b : Limits) (image : ImageData) (plan : PlanData) (key : Key) (p : ℕ) (s : State) (r : ℕ) : Type 0 where
  pub fails : LocalRuleHoldsAtPoint b image plan key p s r → ⊥
  pub least : (q : ℕ) → q < r → LocalRuleHoldsAtPoint b image plan key p s q

-- no rule's own part fails at the point p with this state
abbrev pub IsFaultless : Limits → ImageData → PlanData → Key → ℕ → State → Type 0
IsFaultless b image plan key p s = (r : ℕ) → LocalRuleHoldsAtPoint b image plan key p s r

-- this instruction of so many bytes is at the point p, and no rule's own part fails there
pub record IsFaultlessInst (b : Limits) (image : ImageData) (plan : PlanData) (key : Key) (p : ℕ) (s : State) (found : InstData × ℕ) : Type 0 where
  pub faultless : IsFaultless b image plan key p s
  pub code : IsCode image plan p (shape_of found.0) found.1

-- ---- K9 and K10
-- the local fault of a load or a store by its addresses: the lesser of K9 and K10 that an
-- instruction of this shape breaks; if none, both hold
abbrev pub IsAccessFault : Limits → PlanData → State → Shape → Option ℕ → Type 0
IsAccessFault b plan s shape (Some r) =
    ((r ≡ 9) × (StoresInRange b plan s shape → ⊥)) ⊎ ((r ≡ 10) × StoresInRange b plan s shape × (IsAccessAllowed b plan s shape → ⊥))
IsAccessFault b plan s shape None = StoresInRange b plan s shape × IsAccessAllowed b plan s shape

-- An instruction of this shape and size is at p, and no rule's own part fails there.
pub record IsFaultlessShape (b : Limits) (image : ImageData) (plan : PlanData) (key : Key) (p : ℕ) (s : State) (found : Located) : Type 0 where
  pub faultless : IsFaultless b image plan key p s
  pub code : IsCode image plan p found.shape found.size
  pub shape : IsShapeInBounds found.shape
