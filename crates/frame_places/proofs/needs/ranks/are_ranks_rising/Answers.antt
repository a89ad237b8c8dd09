use Rattle.std.proofs.Common.{◌<◌, List, Contains, subst}
use Rattle.std.specs.Prelude.{slice_index}
use Rattle.std.proofs.lemmas.List.{take_all}
use Rattle.frame_places.specs.declared.needs.reach.FrameEdge.{FrameEdge}
use Rattle.frame_places.proofs.ReachLemmas.{ranks_rise}
use Rattle.frame_places.proofs.needs.ranks.are_ranks_rising.Goals as goal

pub returns : goal.returns
returns c y =
    ranks_rise c.args.edges.now c.args.ranks.now
    (subst (λ (l : List FrameEdge). (e : FrameEdge) → Contains l e → slice_index c.args.ranks.now e.node < slice_index c.args.ranks.now e.into)
    (take_all c.loop-edge.edge-index c.args.edges.now c.loop-edge-test.false) c.loop-edge.invariant)
