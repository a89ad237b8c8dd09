use Rattle.std.proofs.Common.{◌≡◌, map, take}
use Rattle.serde_json.specs.View.{view}
use Rattle.tcd_report.specs.Reports.{longest_calls_data}
use Rattle.tcd_report.proofs.reports.report_text.longest_calls_value.Given as goal

abbrev pub invariant-loop-row : goal.invariant-loop-row
invariant-loop-row l = map view l.values.items ≡ map longest_calls_data (take l.row-index l.rows)
