use Rattle.std.proofs.Common.{◌≡◌, take}
use Rattle.std.specs.Prelude.{codes}
use Rattle.tcd_report.specs.Graphs.{lines_to}
use Rattle.tcd_report.proofs.graphs.handlers.make_handler_lines.Given as goal

abbrev pub invariant-loop-entry : goal.invariant-loop-entry
invariant-loop-entry l = l.lines.items ≡ lines_to l.front (codes "irq ") (take l.entry-index l.entries)
