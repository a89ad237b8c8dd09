use Rattle.std.proofs.Common.{take}
use Rattle.depth_cert.specs.Keys.{call_kind}
use Rattle.cfg_recover.specs.Entries.{entered_key}
use Rattle.tcd_report.specs.Reports.Heights.{IsGreatestHeightInList, IsHeightThroughCallee}
use Rattle.tcd_report.proofs.reports.heights.height_of_call.Given as goal

abbrev pub invariant-loop-target : goal.invariant-loop-target
invariant-loop-target l = IsGreatestHeightInList (λ t. IsHeightThroughCallee l.heights (entered_key l.key call_kind t)) (take l.target-index l.target-items) l.most
