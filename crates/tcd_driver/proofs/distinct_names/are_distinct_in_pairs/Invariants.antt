use Rattle.std.specs.Prelude.{◌≡◌, map, string_bytes, length}
use Rattle.tcd_driver.specs.DistinctNames.{are_distinct_names}
use Rattle.tcd_driver.proofs.distinct_names.are_distinct_in_pairs.Given as goal

abbrev pub invariant-loop-rest : goal.invariant-loop-rest
invariant-loop-rest l = are_distinct_names (map string_bytes l.names) ≡ are_distinct_names (map string_bytes l.rest)

abbrev pub decreases-loop-rest : goal.decreases-loop-rest
decreases-loop-rest l = length l.rest
