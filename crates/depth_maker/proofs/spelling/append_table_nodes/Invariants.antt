use Rattle.std.proofs.Common.{take}
use Rattle.depth_maker.specs.SpelledCert.{AppendsTableNodes}
use Rattle.depth_maker.proofs.spelling.append_table_nodes.Given as goal

abbrev pub invariant-loop-k : goal.invariant-loop-k
invariant-loop-k l = AppendsTableNodes l.ordered (take l.k-index l.frames) l.initial.out.items l.out.items
