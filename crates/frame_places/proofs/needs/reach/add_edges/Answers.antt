use Rattle.std.proofs.Common.{refl, Contains, subst, sym, List, get_or}
use Rattle.std.specs.List.{list_any}
use Rattle.indexmap.proofs.CallerLemmas.{Contains-insert_key}
use Rattle.frame_places.specs.declared.needs.reach.FrameEdge.{FrameEdge}
use Rattle.frame_places.specs.NodeGraph.{edge_between}
use Rattle.frame_places.specs.Hashed.{edge_eq}
use Rattle.frame_places.proofs.ReachLemmas.{adds_more, edge_tells}
use Rattle.frame_places.proofs.needs.reach.add_edges.Goals as goal

pub loop-t-preserved : goal.loop-t-preserved
loop-t-preserved c =
    let x = get_or c.args.into.now c.loop-t.t-index 0 in
    adds_more (list_any (edge_eq (edge_between c.args.node x)) c.loop-t.edges.keys) c.args.edges.now.keys c.loop-t.edges.keys c.insert.new.self.keys c.args.node c.loop-t.t-index x 0 c.args.into.now c.loop-t.invariant
    c.loop-t-test.true refl c.in_ok-insert.ensures.keys
    (subst (λ (l : List FrameEdge). Contains l (edge_between c.args.node x)) (sym c.in_ok-insert.ensures.keys) (Contains-insert_key edge_eq edge_tells c.loop-t.edges.keys (edge_between c.args.node x)))
