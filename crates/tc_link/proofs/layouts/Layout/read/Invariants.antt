use Rattle.std.proofs.Common.{◌≤◌, ◌+◌, length}
use Rattle.tcd_text.specs.Lines.{text_lines}
use Rattle.tc_link.proofs.ReadLaws.{Reached}
use Rattle.tc_link.proofs.layouts.Layout.read.Given as goal

abbrev pub invariant-lines : goal.invariant-lines
invariant-lines l = record {
  short : l.number + length l.rest ≤ length l.bytes;
  reached : Reached (text_lines l.bytes) l.number l.rest l.draft;
}

abbrev pub decreases-lines : goal.decreases-lines
decreases-lines l = length l.rest
