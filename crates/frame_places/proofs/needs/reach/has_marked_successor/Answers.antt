use Rattle.std.proofs.Common.{List, Contains, subst, sym, refl}
use Rattle.std.proofs.lemmas.List.{take_all}
use Rattle.std.proofs.lemmas.List.Elements.{Contains-get_or}
use Rattle.frame_places.specs.declared.needs.reach.FrameEdge.{FrameEdge}
use Rattle.frame_places.specs.NodeGraph.{edge_between}
use Rattle.frame_places.proofs.needs.reach.has_marked_successor.Goals as goal

pub bounds-marks-edge : goal.bounds-marks-edge
bounds-marks-edge c = c.requires.into _ (Contains-get_or c.args.edges.now c.loop-edge.edge-index _ c.loop-edge-test.true)

pub returns : goal.returns
returns c = (
  (λ f. cc),
  (λ h. absurd (c.loop-edge.invariant (edge_between c.args.node h.0) (subst (λ (l : List FrameEdge). Contains l (edge_between c.args.node h.0)) (sym (take_all c.loop-edge.edge-index c.args.edges.now c.loop-edge-test.false)) h.1) refl h.2)),
)
