use Rattle.std.proofs.Common.{take}
use Rattle.frame_places.specs.NodeGraph.{AddsEdges}
use Rattle.frame_places.proofs.needs.reach.add_edges.Given as goal

abbrev pub invariant-loop-t : goal.invariant-loop-t
invariant-loop-t l = AddsEdges l.initial.edges.keys l.edges.keys l.node (take l.t-index l.into)
