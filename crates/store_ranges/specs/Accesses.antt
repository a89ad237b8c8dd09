-- Accesses to memory, and those from the members of a value: are they in range, are they aligned?
use Rattle.std.specs.Prelude.{◌≡◌, ◌⊎◌, ℕ, ◌<◌, ◌≤◌, ◌+◌, ◌%◌, ◌^◌, ◌==◌, Bool}
use Rattle.tcd_plan.specs.PlanData.{PlanData}
use Rattle.tcd_plan.specs.MappedAddresses.{IsStoreInRange}
use Rattle.value_domain.specs.declared.values.Val.{Val}
use Rattle.value_domain.specs.Sets.{alignment_log2}
use Rattle.value_domain.specs.Values.{IsMember, members}
use Rattle.std.specs.List.{list_all}

-- an access is to 1, 2 or 4 bytes
abbrev pub IsAccessSize : ℕ → Type 0
IsAccessSize n = (n ≡ 1) ⊎ (n ≡ 2) ⊎ (n ≡ 4)

-- each store of this size from a member doesn't pass 2^32 and is wholly in one ram range or one
-- peripheral range
abbrev pub AreStoresInRange : PlanData → Val → ℕ → Type 0
AreStoresInRange plan v size = (x : ℕ) → IsMember x v → IsStoreInRange plan (x, size)

-- the accesses from all members of a value are aligned: each is at a multiple of its size
abbrev pub AreAligned : Val → ℕ → Type 0
AreAligned v size = (x : ℕ) → IsMember x v → x % size ≡ 0

-- the store of this size at x is in range (K9), and so is each later one that ends at `end` or
-- before
pub record AreStoresInRangeUntil (plan : PlanData) (size x end : ℕ) : Type 0 where
  pub here : x + size ≤ end
  pub within : end ≤ 2 ^ 32
  pub each : (y : ℕ) → x ≤ y → y + size ≤ end → IsStoreInRange plan (y, size)

-- next is the least multiple of 2 ^ step above x: the next address that a Span of stores may have
pub record IsNextStoreAddress (step x next : ℕ) : Type 0 where
  pub above : x < next
  pub fits : step ≤ alignment_log2 next
  pub least : (y : ℕ) → x < y → step ≤ alignment_log2 y → next ≤ y

-- this holds if all accesses of this size from the members of a value are at multiples of the size
abbrev pub are_aligned : Val → ℕ → Bool
are_aligned v size = list_all (λ x. x % size == 0) (members v)
