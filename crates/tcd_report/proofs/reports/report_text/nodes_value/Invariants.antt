use Rattle.std.proofs.Common.{◌≡◌, map, take}
use Rattle.serde_json.specs.View.{view}
use Rattle.tcd_report.specs.Reports.{reported_node}
use Rattle.tcd_report.proofs.reports.report_text.nodes_value.Given as goal

abbrev pub invariant-loop-i : goal.invariant-loop-i
invariant-loop-i l = map view l.values.items ≡ map reported_node (take l.i (l.cert).nodes)
