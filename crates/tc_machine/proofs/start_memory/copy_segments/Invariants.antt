use Rattle.std.proofs.Common.{◌≤◌, drop, length, map}
use Rattle.elf_image.specs.Images.{segment_data}
use Rattle.csa_chain.specs.MemoryBytes.{HasOnlyBytes}
use Rattle.tc_machine.specs.Starting.{AreSegmentsCopied}
use Rattle.tc_machine.proofs.start_memory.copy_segments.Given as goal

abbrev pub invariant-loop-rest : goal.invariant-loop-rest
invariant-loop-rest l = record { within : l.rest ≤ length l.segments; copied : AreSegmentsCopied (map segment_data (drop l.rest l.segments)) l.range l.fn.mem l.mem; bytes : HasOnlyBytes l.fn.mem → HasOnlyBytes l.mem }

abbrev pub decreases-loop-rest : goal.decreases-loop-rest
decreases-loop-rest l = l.rest
