use Rattle.std.specs.Prelude.{◌≡◌, map, string_bytes, length}
use Rattle.tc_object.specs.Used.{is_used_name}
use Rattle.tcd_driver.specs.DistinctNames.{are_distinct_names}
use Rattle.tcd_driver.proofs.DistinctNames.{are_new_names}
use Rattle.tcd_driver.proofs.distinct_names.are_distinct_by_map.Given as goal

abbrev pub invariant-loop-rest : goal.invariant-loop-rest
invariant-loop-rest l = are_distinct_names (map string_bytes l.names) ≡ are_new_names (is_used_name l.seen) (map string_bytes l.rest)

abbrev pub decreases-loop-rest : goal.decreases-loop-rest
decreases-loop-rest l = length l.rest
