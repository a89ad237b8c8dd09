use Rattle.std.proofs.Common.{[], take, string_bytes}
use Rattle.tcd_report.specs.Graphs.{AreNodeLines, AreJoinedLines}
use Rattle.tcd_report.specs.Graphs.KnownHandlers.{AreValidHandlers}
use Rattle.tcd_report.specs.Texts.{GrowsByLines}
use Rattle.tcd_report.proofs.graphs.graph.Given as goal

abbrev pub invariant-loop-i : goal.invariant-loop-i
invariant-loop-i l = record {
  grown : GrowsByLines (AreJoinedLines (AreNodeLines l.image l.plan l.cert) (take l.i (l.cert).nodes)) [] (string_bytes l.graph.text);
  handlers : AreValidHandlers l.plan l.graph.ways.irq;
}
