use Rattle.std.proofs.Common.{take}
use Rattle.frame_places.specs.NodeGraph.{ArePredecessors}
use Rattle.frame_places.proofs.needs.reach.predecessors.Given as goal

abbrev pub invariant-loop-edge : goal.invariant-loop-edge
invariant-loop-edge l = ArePredecessors (take l.edge-index l.edges) l.sources
