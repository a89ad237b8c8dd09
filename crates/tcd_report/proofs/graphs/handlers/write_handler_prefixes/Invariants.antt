use Rattle.std.proofs.Common.{◌≡◌, ◌+◌, ◌*◌, ◌++◌, ℕ, List, length, take, drop}
use Rattle.std.specs.Prelude.{codes}
use Rattle.tcd_report.specs.Graphs.{lines_to}
use Rattle.tcd_report.proofs.graphs.handlers.write_handler_prefixes.Given as goal

abbrev pub invariant-loop : goal.invariant-loop
invariant-loop l = record {
  place : l.at ≡ l.counter * (length l.front + 13);
  size : length l.lines ≡ length l.entries * (length l.front + 13);
  old : List ℕ;
  sized : length old ≡ length l.front;
  are : l.lines ≡ lines_to l.front (codes "irq ") (take l.counter l.entries) ++ lines_to old (codes "irq ") (drop l.counter l.entries);
}
