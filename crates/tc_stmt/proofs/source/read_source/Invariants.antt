use Rattle.std.proofs.Common.{length}
use Rattle.tc_stmt.proofs.ReadLines.{Reading}
use Rattle.tc_stmt.proofs.source.read_source.Given as goal

abbrev pub invariant-lines : goal.invariant-lines
invariant-lines l = Reading l.source l.lines.items l.items.items l.rest

abbrev pub decreases-lines : goal.decreases-lines
decreases-lines l = length l.rest
