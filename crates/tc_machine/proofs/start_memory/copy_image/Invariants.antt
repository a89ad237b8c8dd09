use Rattle.std.proofs.Common.{◌≡◌, drop}
use Rattle.csa_chain.specs.MemoryBytes.{HasOnlyBytes}
use Rattle.tc_machine.specs.Starting.{with_image_in_ranges}
use Rattle.tc_machine.proofs.start_memory.copy_image.Given as goal

abbrev pub invariant-loop-range : goal.invariant-loop-range
invariant-loop-range l = record { copied : with_image_in_ranges l.image l.mem (drop l.range-index l.ranges) ≡ with_image_in_ranges l.image l.fn.mem l.ranges; bytes : HasOnlyBytes l.fn.mem → HasOnlyBytes l.mem }
