use Rattle.std.proofs.Common.{◌+◌, ◌≤◌, length}
use Rattle.value_cells.proofs.ReadLaws.{IsReadSoFar}
use Rattle.value_cells.proofs.cells.Cells.read.Given as goal

-- the lines before what is left are read, and there are no more of them than bytes
abbrev pub invariant-lines : goal.invariant-lines
invariant-lines l = record {
  read : IsReadSoFar l.plan l.fn.bytes l.rest l.number l.cells;
  left : l.number + length l.rest ≤ length l.fn.bytes;
}

abbrev pub decreases-lines : goal.decreases-lines
decreases-lines l = length l.rest
