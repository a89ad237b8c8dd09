use Rattle.std.proofs.Common.{◌≡◌, take, Contains}
use Rattle.frame_places.specs.declared.needs.reach.FrameEdge.{FrameEdge}
use Rattle.frame_places.specs.NodeGraph.{IsNodeMarked}
use Rattle.frame_places.proofs.needs.reach.has_marked_successor.Given as goal

abbrev pub invariant-loop-edge : goal.invariant-loop-edge
invariant-loop-edge l = (e : FrameEdge) → Contains (take l.edge-index l.edges) e → e.node ≡ l.node → IsNodeMarked l.marks e.into → ⊥
