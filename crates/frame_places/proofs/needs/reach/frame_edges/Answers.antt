use Rattle.std.proofs.Common.{List, take, subst, sym, ◌++◌, ◌∷◌, []}
use Rattle.std.proofs.lemmas.List.{take_more}
use Rattle.frame_places.specs.declared.needs.row.NeedRow.{NeedRow}
use Rattle.frame_places.specs.NodeGraph.{AreEdgesOfRows, AddsEdges}
use Rattle.frame_places.proofs.ReachLemmas.{edges_more}
use Rattle.frame_places.proofs.needs.reach.frame_edges.Goals as goal

pub loop-row-preserved : goal.loop-row-preserved
loop-row-preserved c =
    subst (λ (l : List NeedRow). AreEdgesOfRows l c.add_edges.new.edges.keys) (sym (take_more c.args.rows.now c.loop-row.row-index c.row-item.result c.loop-row-test.true))
    (subst (λ (r : NeedRow). AreEdgesOfRows (take c.loop-row.row-index c.args.rows.now ++ r ∷ []) c.add_edges.new.edges.keys) c.row-item.is
    (edges_more (take c.loop-row.row-index c.args.rows.now) c.row-item.result c.loop-row.edges.keys c.add_edges.new.edges.keys c.loop-row.invariant
    (subst (AddsEdges c.loop-row.edges.keys c.add_edges.new.edges.keys c.row-item.result.node) c.as_slice.ensures.value c.in_ok-add_edges.ensures)))
