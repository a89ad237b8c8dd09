use Rattle.std.proofs.Common.{take}
use Rattle.frame_places.specs.NodeGraph.{AreEdgesOfRows}
use Rattle.frame_places.proofs.needs.reach.frame_edges.Given as goal

abbrev pub invariant-loop-row : goal.invariant-loop-row
invariant-loop-row l = AreEdgesOfRows (take l.row-index l.rows) l.edges.keys
