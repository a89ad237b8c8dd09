use Rattle.std.proofs.Common.{ℕ, take, Contains}
use Rattle.frame_places.specs.NodeGraph.{IsNodeMarked}
use Rattle.frame_places.proofs.needs.reach.has_marked_node.Given as goal

abbrev pub invariant-loop-node : goal.invariant-loop-node
invariant-loop-node l = (t : ℕ) → Contains (take l.node-index l.nodes) t → IsNodeMarked l.marks t → ⊥
