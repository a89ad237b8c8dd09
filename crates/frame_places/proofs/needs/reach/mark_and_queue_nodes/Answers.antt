use Rattle.std.proofs.Common.{ℕ, List, take, get_or, subst, sym, arith}
use Rattle.std.proofs.lemmas.List.{take_more}
use Rattle.std.proofs.lemmas.List.Elements.{Contains-get_or}
use Rattle.frame_places.specs.NodeGraph.{MarksAndQueuesUnmarked}
use Rattle.frame_places.proofs.ReachLemmas.{nodes_more}
use Rattle.frame_places.proofs.needs.reach.mark_and_queue_nodes.Goals as goal

pub mark_and_queue_node-requires : goal.mark_and_queue_node-requires
mark_and_queue_node-requires c =
    let h = c.requires (get_or c.args.nodes.now c.loop-node.node-index 0) (Contains-get_or c.args.nodes.now c.loop-node.node-index 0 c.loop-node-test.true) in
    omega (arith, h, c.loop-node.auto.marks)

pub loop-node-preserved : goal.loop-node-preserved
loop-node-preserved c =
    subst (λ (l : List ℕ). MarksAndQueuesUnmarked l c.args.marks.now c.mark_and_queue_node.new.marks c.args.work.now.items c.mark_and_queue_node.new.work.items) (sym (take_more c.args.nodes.now c.loop-node.node-index 0 c.loop-node-test.true))
    (nodes_more (take c.loop-node.node-index c.args.nodes.now) (get_or c.args.nodes.now c.loop-node.node-index 0) c.args.marks.now c.loop-node.marks c.mark_and_queue_node.new.marks c.args.work.now.items c.loop-node.work.items c.mark_and_queue_node.new.work.items
    c.loop-node.invariant c.in_ok-mark_and_queue_node.ensures)
