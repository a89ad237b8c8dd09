use Rattle.std.proofs.Common.{ℕ, take}
use Rattle.std.specs.Prelude.{nat_eq}
use Rattle.std.specs.HashMap.{get}
use Rattle.tcd_report.specs.Reports.Longest.{IsHeightAtPriority, IsLongestIfAny}
use Rattle.tcd_report.proofs.reports.longest_by_priority.longest_calls_by_priority.Given as goal

abbrev pub invariant-loop-i : goal.invariant-loop-i
invariant-loop-i l = (p : ℕ) → IsLongestIfAny (IsHeightAtPriority l.heights (take l.i (l.cert).nodes) p) (get nat_eq l.rows p)
