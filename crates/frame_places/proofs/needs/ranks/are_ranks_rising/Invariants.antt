use Rattle.std.proofs.Common.{◌<◌, take, Contains}
use Rattle.std.specs.Prelude.{slice_index}
use Rattle.frame_places.specs.declared.needs.reach.FrameEdge.{FrameEdge}
use Rattle.frame_places.proofs.needs.ranks.are_ranks_rising.Given as goal

abbrev pub invariant-loop-edge : goal.invariant-loop-edge
invariant-loop-edge l = (e : FrameEdge) → Contains (take l.edge-index l.edges) e → slice_index l.ranks e.node < slice_index l.ranks e.into
