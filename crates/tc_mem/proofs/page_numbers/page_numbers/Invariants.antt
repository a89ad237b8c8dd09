use Rattle.std.proofs.Common.{◌/◌, ℕ, Contains, IsTrue, take}
use Rattle.tcd_base.specs.Ranges.{is_address_in_ranges}
use Rattle.tc_mem.proofs.page_numbers.page_numbers.Given as goal

abbrev pub invariant-loop-range : goal.invariant-loop-range
invariant-loop-range l = (q : ℕ) → IsTrue (is_address_in_ranges (take l.range-index l.ranges) q) → Contains l.numbers.items (q / 4096)
