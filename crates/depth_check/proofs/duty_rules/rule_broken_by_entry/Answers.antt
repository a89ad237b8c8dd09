use Rattle.std.proofs.Common.{sym}
use Rattle.vd_transfer.specs.Changes.{state_after}
use Rattle.depth_check.specs.PointChecks.{point_check_data}
use Rattle.depth_check.proofs.DutyLaws.{entry_found, entry_missing}
use Rattle.depth_check.proofs.RuleLaws.{values_well}
use Rattle.depth_check.proofs.duty_rules.rule_broken_by_entry.Goals as goal

pub returns-in_default : goal.returns-in_default
returns-in_default c = entry_missing c.args.at.now.cert c.args.at.now.node c.args.at.now.point.state c.args.rule c.args.key.now (state_after c.args.at.now.point.state c.args.entry.now) c.args.back (rw (← c.at.view_is) (sym c.in_default.ensures)) c.requires.rule

pub is_return_met-requires : goal.is_return_met-requires
is_return_met-requires c = values_well c.at.inside.bounds.now _ c.at.invariant.values

pub returns : goal.returns
returns c =
    let t = point_check_data c.at.inside in
    rw (c.lesser_broken_rule-2.ensures, c.lesser_broken_rule.ensures, c.broken_rule_unless-into.ensures, c.broken_rule_unless-need.ensures, c.broken_rule_unless-on.ensures, ← c.at.view_is)
    (entry_found t.cert t.node t.point.state c.args.rule c.args.key.now (state_after t.point.state c.args.entry.now) c.args.back c.in-Some.entered c.has_point_covering_change.result c.is_need_sufficient_for_entry.result c.is_return_met.result
    (sym c.in-Some.ensures) c.requires.rule c.has_point_covering_change.ensures c.is_need_sufficient_for_entry.ensures c.is_return_met.ensures)
