use Rattle.std.proofs.Common.{true, set, subst, sym, ◌∷◌, []}
use Rattle.frame_places.specs.NodeGraph.{MarksAndQueuesUnmarked}
use Rattle.frame_places.proofs.ReachLemmas.{node_new}
use Rattle.frame_places.proofs.needs.reach.mark_and_queue_node.Goals as goal

pub returns-in_ok-push : goal.returns-in_ok-push
returns-in_ok-push c =
    subst (MarksAndQueuesUnmarked (c.args.node ∷ []) c.args.marks.now (set c.args.marks.now c.args.node true) c.args.work.now.items) (sym c.in_ok-push.ensures.items)
    (node_new c.args.node c.args.marks.now c.args.work.now.items c.requires c.if-not-marks-node.true)
