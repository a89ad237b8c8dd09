-- What a plan maps, which of its ranges overlap, and what its peripherals can answer.
use Rattle.std.specs.Prelude.{◌≡◌, ℕ, ◌+◌, ◌*◌, ◌^◌, ◌<◌, ◌≤◌, ◌⊎◌, List, ◌∷◌, Option, All, IfSome, []}
use Rattle.tcd_base.specs.Ranges.{IsWithinRange, IsInOneRange}
use Rattle.tcd_plan.specs.declared.plans.Device.{Device}
use Rattle.tcd_plan.specs.PlanData.{PlanData}

-- the n addresses from x on are in one of a plan's peripheral regions: the range of one peripheral
abbrev pub IsInDevice : ℕ → ℕ → List Device → Type 0
IsInDevice x n [] = ⊥
IsInDevice x n (d ∷ ds) = IsWithinRange x n d.range ⊎ IsInDevice x n ds

-- the address is in the region of a plan's save areas
abbrev pub IsInAreas : PlanData → ℕ → Type 0
IsInAreas plan x = (plan.csa_at ≤ x) × (x < plan.csa_at + 64 * plan.areas)

-- the address is in a region that the plan maps: rom, ram or the save areas
abbrev pub IsMappedBy : PlanData → ℕ → Type 0
IsMappedBy plan x = IsInOneRange x 1 plan.rom ⊎ IsInOneRange x 1 plan.ram ⊎ IsInAreas plan x

-- each peripheral that has the four bytes at x may answer with this input: it is within the
-- peripheral's bounds
abbrev pub MayAnswerAt : ℕ → ℕ → List Device → Type 0
MayAnswerAt x input ds = All (λ d. IsWithinRange x 4 d.range → (d.lo ≤ input) × (input ≤ d.hi)) ds

-- an event with this load may have this input: a word that is loaded from a peripheral is within
-- the peripheral's bounds
abbrev pub MayAnswerLoad : PlanData → ℕ → Option (ℕ × ℕ) → Type 0
MayAnswerLoad plan input load = IfSome load (λ l. l.1 ≡ 4 → MayAnswerAt l.0 input plan.devices)

-- a store is in the regions where a plan allows it: not past 2^32, and wholly in one ram range or
-- one peripheral range
abbrev pub IsStoreInRange : PlanData → ℕ × ℕ → Type 0
IsStoreInRange plan at = (at.0 + at.1 ≤ 2 ^ 32) × (IsInOneRange at.0 at.1 plan.ram ⊎ IsInDevice at.0 at.1 plan.devices)
