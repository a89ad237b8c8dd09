use Rattle.frame_places.specs.NodeGraph.{IsFirstRecursiveNodeBefore}
use Rattle.frame_places.proofs.needs.reach.first_recursive_node.Given as goal

abbrev pub invariant-loop-node : goal.invariant-loop-node
invariant-loop-node l = IsFirstRecursiveNodeBefore l.orders l.edges l.node l.first
