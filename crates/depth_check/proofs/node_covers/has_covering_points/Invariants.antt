use Rattle.std.proofs.Common.{take}
use Rattle.depth_check.specs.DutiesHold.{HasCoveringPoints}
use Rattle.depth_check.proofs.node_covers.has_covering_points.Given as goal

abbrev pub invariant-loop-t : goal.invariant-loop-t
invariant-loop-t l = HasCoveringPoints l.at.node l.at.point.state (take l.t-index l.targets)
