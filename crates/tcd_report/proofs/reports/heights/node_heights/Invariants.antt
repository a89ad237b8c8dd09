use Rattle.std.proofs.Common.{take}
use Rattle.tcd_report.specs.Reports.Heights.{AreNodeHeights, HasHeights}
use Rattle.tcd_report.proofs.reports.heights.node_heights.Given as goal

abbrev pub invariant-loop-key : goal.invariant-loop-key
invariant-loop-key l = record {
  tells : AreNodeHeights l.judged.image.now l.judged.plan.now l.judged.cert.now l.heights;
  all : HasHeights l.heights (take l.key-index l.key-items);
}
