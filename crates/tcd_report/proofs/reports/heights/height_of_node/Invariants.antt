use Rattle.std.proofs.Common.{◌≡◌, ◌++◌, List, length}
use Rattle.depth_cert.specs.declared.points.Point.{Point}
use Rattle.tcd_report.specs.Reports.Heights.{IsGreatestHeightInList, IsHeightThroughCall}
use Rattle.tcd_report.proofs.reports.heights.height_of_node.Given as goal

abbrev pub invariant-loop-addr : goal.invariant-loop-addr
invariant-loop-addr l = record {
  done : List Point;
  split : (l.node).points ≡ done ++ (l.walk).left;
  most : IsGreatestHeightInList (IsHeightThroughCall l.judged.image.now l.judged.plan.now l.judged.cert.now l.heights (l.node).key) done l.most;
}

abbrev pub decreases-loop-addr : goal.decreases-loop-addr
decreases-loop-addr l = length (l.walk).left
