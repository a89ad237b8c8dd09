-- Ranges of addresses, and the tests for what is inside.
use Rattle.std.specs.Prelude.{ℕ, ◌+◌, ◌^◌, ◌≤◌, ◌⊎◌, ◌&&◌, Bool, nat_le, List, ◌∷◌, nat_lt, All, []}
use Rattle.tcd_base.specs.declared.range.Range.{Range}
use Rattle.std.specs.List.{list_any}

-- the first address after a range
abbrev pub range_end : Range → ℕ
range_end r = r.at + r.len

-- the n addresses from x on are inside the range
abbrev pub IsWithinRange : ℕ → ℕ → Range → Type 0
IsWithinRange x n r = (r.at ≤ x) × (x + n ≤ range_end r)

-- the n addresses from x on are inside one range of the list
abbrev pub IsInOneRange : ℕ → ℕ → List Range → Type 0
IsInOneRange x n [] = ⊥
IsInOneRange x n (r ∷ rs) = IsWithinRange x n r ⊎ IsInOneRange x n rs

-- the test of IsWithinRange: the n addresses from x on are inside the range
abbrev pub is_within_range : ℕ → ℕ → Range → Bool
is_within_range x n r = nat_le r.at x && nat_le (x + n) (range_end r)

-- an address is in the range
abbrev pub is_address_in_range : Range → ℕ → Bool
is_address_in_range r q = nat_le r.at q && nat_lt q (r.at + r.len)

-- an address is in one of the ranges
abbrev pub is_address_in_ranges : List Range → ℕ → Bool
is_address_in_ranges ranges q = list_any (λ r. is_address_in_range r q) ranges

-- each range of the list ends at or below 2 ^ 32, so that none wraps around the last address
abbrev pub RangesDoNotWrap : List Range → Type 0
RangesDoNotWrap ranges = All (λ r. r.at + r.len ≤ 2 ^ 32) ranges

-- the range of len addresses from an address on
abbrev pub range : ℕ → ℕ → Range
range at len = record { at = at; len = len }
