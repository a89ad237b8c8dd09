use Rattle.std.proofs.Common.{Some, sym, arith}
use Rattle.vd_transfer.specs.Changes.{state_after}
use Rattle.depth_check.proofs.DutyLaws.{entry_missing}
use Rattle.depth_check.proofs.CallLaws.{alike_found}
use Rattle.depth_check.proofs.duty_rules.rule_broken_by_called_node.Goals as goal

pub returns-in_default-node-clause-found : goal.returns-in_default-node-clause-found
returns-in_default-node-clause-found c =
    let t = c.args.at.now in
    entry_missing t.cert t.node t.point.state 5 c.args.key.now (state_after t.point.state c.args.entry.now) (Some c.args.back) (rw (← c.at.view_is) (sym c.in_default-node.ensures)) (omega arith)

pub returns-then-have_same_entry_and_exit-clause-found : goal.returns-then-have_same_entry_and_exit-clause-found
returns-then-have_same_entry_and_exit-clause-found c =
    let t = c.args.at.now in
    rw c.broken_rule_unless.ensures
    (alike_found t c.args.entry.now c.in-Some.last c.args.key.now c.args.back c.in-Some-node.entered c.is_need_sufficient_for_entry-has_need.result c.requires.kind (rw c.in-Some.is at c.requires.held)
    (rw (← c.at.view_is) (c.have_same_entry_and_exit.ensures c.if-have_same_entry_and_exit.true))
    (rw (← c.at.view_is) (sym c.in-Some-node.ensures))
    (rw (← c.at.view_is) c.is_need_sufficient_for_entry-has_need.ensures))
