use Rattle.depth_check.proofs.DutyLaws.{duties_append}
use Rattle.depth_check.proofs.successor_rules.rule_broken_by_branch.Goals as goal

pub returns : goal.returns
returns c =
    rw c.lesser_broken_rule.ensures
    (duties_append c.args.at.now.cert c.args.at.now.node c.args.at.now.point.state _ _ c.rule_broken_by_branch_side-straight.result c.rule_broken_by_branch_side-taken.result c.rule_broken_by_branch_side-straight.ensures c.rule_broken_by_branch_side-taken.ensures)
