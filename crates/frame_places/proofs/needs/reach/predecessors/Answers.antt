use Rattle.std.proofs.Common.{List, take, get_or, subst, sym}
use Rattle.std.proofs.lemmas.List.{take_more}
use Rattle.frame_places.specs.declared.needs.reach.FrameEdge.{FrameEdge}
use Rattle.frame_places.specs.NodeGraph.{ArePredecessors}
use Rattle.frame_places.proofs.ReachLemmas.{sources_more}
use Rattle.frame_places.proofs.needs.reach.predecessors.Goals as goal

pub loop-edge-preserved : goal.loop-edge-preserved
loop-edge-preserved c =
    let d : FrameEdge = record { node = 0; into = 0 } in
    subst (λ (l : List FrameEdge). ArePredecessors l c.add_predecessor.new.sources) (sym (take_more c.args.edges.now c.loop-edge.edge-index d c.loop-edge-test.true))
    (sources_more (take c.loop-edge.edge-index c.args.edges.now) (get_or c.args.edges.now c.loop-edge.edge-index d) c.loop-edge.sources c.add_predecessor.new.sources c.loop-edge.invariant c.in_ok-add_predecessor.ensures)
