use Rattle.std.proofs.Common.{◌≡◌, map, take}
use Rattle.tcd_report.specs.Reports.Heights.{need_with_key}
use Rattle.tcd_report.proofs.reports.heights.needs_with_keys.Given as goal

abbrev pub invariant-loop-i : goal.invariant-loop-i
invariant-loop-i l = l.ranks.items ≡ map need_with_key (take l.i (l.cert).nodes)
