use Rattle.std.proofs.Common.{take}
use Rattle.frame_places.specs.NodeGraph.{MarksAndQueuesUnmarked}
use Rattle.frame_places.proofs.needs.reach.mark_and_queue_nodes.Given as goal

abbrev pub invariant-loop-node : goal.invariant-loop-node
invariant-loop-node l = MarksAndQueuesUnmarked (take l.node-index l.nodes) l.initial.marks l.marks l.initial.work.items l.work.items
