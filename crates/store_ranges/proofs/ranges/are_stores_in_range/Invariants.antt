use Rattle.std.proofs.Common.{ℕ, ◌<◌, get_or}
use Rattle.tcd_plan.specs.MappedAddresses.{IsStoreInRange}
use Rattle.store_ranges.proofs.ranges.are_stores_in_range.Given as goal

abbrev pub invariant-loop-x : goal.invariant-loop-x
invariant-loop-x l = (k : ℕ) → k < l.x-index → IsStoreInRange l.plan (get_or l.words k 0, l.size)
