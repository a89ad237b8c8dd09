use Rattle.depth_check.proofs.DutyLaws.{point_found}
use Rattle.depth_check.proofs.fast_paths.rule_broken_by_kept_state.Goals as goal

pub returns : goal.returns
returns c =
    let t = c.args.at.now in
    rw c.broken_rule_unless.ensures (point_found t.cert t.node t.point.state t.point.state c.args.next c.is_own_state_covered.result c.is_own_state_covered.ensures)
