use Rattle.cfg_recover.proofs.EntryLaws.{refine_length}
use Rattle.depth_check.proofs.NarrowLaws.{side_found}
use Rattle.depth_check.proofs.successor_rules.rule_broken_by_branch_side.Goals as goal

pub returns-then-is_unrefined_state_covered : goal.returns-then-is_unrefined_state_covered
returns-then-is_unrefined_state_covered c =
    let t = c.args.at.now in
    let s = t.point.state in
    side_found t.cert t.node s c.args.to _ (refine_length t.bounds t.plan c.args.shape s c.args.taken)
    (c.may_skip_refinement.ensures c.if-may_skip_refinement.true t.bounds t.plan s c.args.taken (rw (← c.at.view_is) c.at.invariant.values)) (c.is_unrefined_state_covered.ensures.0 c.if-is_unrefined_state_covered.true)
