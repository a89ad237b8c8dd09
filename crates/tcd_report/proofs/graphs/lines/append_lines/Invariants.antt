use Rattle.std.proofs.Common.{◌≡◌, ◌++◌, take, string_bytes}
use Rattle.tcd_report.specs.Graphs.{lines_to}
use Rattle.tcd_report.proofs.graphs.lines.append_lines.Given as goal

abbrev pub invariant-loop-to : goal.invariant-loop-to
invariant-loop-to l = string_bytes l.text ≡ string_bytes l.initial.text ++ lines_to l.front l.word (take l.to-index l.targets)
