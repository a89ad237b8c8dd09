-- Ranges without a block of bytes.
use Rattle.std.specs.Prelude.{◌+◌, ℕ, min, max, List, ◌++◌, flat_map, ◌∷◌, ◌-◌, nat_lt, if◌then◌else◌, []}
use Rattle.tcd_base.specs.declared.range.Range.{Range}

-- what cutting a block out of a plan's range leaves between two addresses, as a list: one range, or
-- none if no byte is left
abbrev pub range_between : ℕ → ℕ → List Range
range_between from upto = if nat_lt from upto then record { at = from; len = upto - from } ∷ [] else []

-- the parts of a range below and above the n bytes from x on
abbrev pub range_outside : ℕ → ℕ → Range → List Range
range_outside x n r = range_between r.at (min x (r.at + r.len)) ++ range_between (max (x + n) r.at) (r.at + r.len)

-- the parts of all ranges below and above the n bytes from x on, ascending if the ranges are
abbrev pub ranges_outside : ℕ → ℕ → List Range → List Range
ranges_outside x n rs = flat_map (range_outside x n) rs
