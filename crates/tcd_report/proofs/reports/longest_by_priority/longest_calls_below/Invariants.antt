use Rattle.std.proofs.Common.{◌≡◌}
use Rattle.std.specs.Prelude.{nat_eq}
use Rattle.std.specs.HashMap.{get}
use Rattle.tcd_report.specs.Reports.Longest as spec
use Rattle.tcd_report.proofs.reports.longest_by_priority.longest_calls_below.Given as goal

abbrev pub invariant-loop-prio : goal.invariant-loop-prio
invariant-loop-prio l = l.rows.items ≡ spec.longest_calls_below (get nat_eq l.known) l.prio-counter
