use Rattle.cfg_recover.specs.RulesHoldOrFail.{HasCoveringPoint}
use Rattle.depth_check.proofs.Deciding.{yes, no, refuted, all_done}
use Rattle.depth_check.proofs.node_covers.has_covering_points.Goals as goal

pub returns-then-not-is_own_state_covered : goal.returns-then-not-is_own_state_covered
returns-then-not-is_own_state_covered c = no _ (λ all. refuted _ _ c.if-not-is_own_state_covered.true c.is_own_state_covered.ensures (all c.loop-t.t-index 0 c.loop-t-test.true))

pub returns : goal.returns
returns c = yes _ (all_done (λ t. HasCoveringPoint c.args.at.now.node t c.args.at.now.point.state) c.args.targets.now c.loop-t.t-index c.loop-t-test.false c.loop-t.invariant)
