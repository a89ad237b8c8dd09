use Rattle.std.proofs.Common.{ℕ, ◌+◌, ◌*◌, List, length}
use Rattle.frame_places.specs.declared.needs.reach.FrameEdge.{FrameEdge}
use Rattle.frame_places.specs.NodeGraph.{ArePredecessors, SearchInvariantHolds, count_unmarked}
use Rattle.frame_places.proofs.needs.reach.mark_reaching_nodes.Given as goal

abbrev pub invariant-loop-node : goal.invariant-loop-node
invariant-loop-node l =
    (edges : List FrameEdge) (node : ℕ) → ArePredecessors edges l.sources → SearchInvariantHolds edges (length l.initial.marks) node l.initial.marks l.initial.work.items → SearchInvariantHolds edges (length l.initial.marks) node l.marks l.work.items

abbrev pub decreases-loop-node : goal.decreases-loop-node
decreases-loop-node l = 2 * count_unmarked l.marks + length l.work.items
