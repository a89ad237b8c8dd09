use Rattle.std.proofs.Common.{◌≡◌, ◌++◌, List, length, string_bytes}
use Rattle.depth_cert.specs.declared.points.Point.{Point}
use Rattle.tcd_report.specs.Graphs.{ArePointLines, AreJoinedLines, node_line_prefix}
use Rattle.tcd_report.specs.Graphs.KnownHandlers.{AreValidHandlers}
use Rattle.tcd_report.specs.Texts.{GrowsByLines}
use Rattle.tcd_report.proofs.graphs.graph_text.append_node_lines.Given as goal

abbrev pub invariant-loop-addr : goal.invariant-loop-addr
invariant-loop-addr l = record {
  done : List Point;
  split : (l.node).points ≡ done ++ (l.walk).left;
  grown : GrowsByLines (AreJoinedLines (ArePointLines l.judged.image.now l.judged.plan.now l.judged.cert.now (l.node).key) done) (string_bytes l.initial.graph.text) (string_bytes l.graph.text);
  front : string_bytes l.graph.key_front ≡ node_line_prefix (l.node).key;
  handlers : AreValidHandlers l.judged.plan.now l.graph.ways.irq;
}

abbrev pub decreases-loop-addr : goal.decreases-loop-addr
decreases-loop-addr l = length (l.walk).left
