use Rattle.depth_check.proofs.DutyLaws.{parts_found, shape_found}
use Rattle.depth_check.proofs.RuleLaws.{values_well}
use Rattle.depth_check.proofs.duty_rules.rule_broken_by_duties.Goals as goal

pub rule_broken_by_leaving-leave-requires : goal.rule_broken_by_leaving-leave-requires
rule_broken_by_leaving-leave-requires c = values_well c.at.inside.bounds.now _ c.at.invariant.values

pub returns-clause-found : goal.returns-clause-found
returns-clause-found c =
    rw (c.lesser_broken_rule-4.ensures, c.lesser_broken_rule-3.ensures, c.lesser_broken_rule-2.ensures, c.lesser_broken_rule.ensures)
    (parts_found c.args.at.now.bounds c.args.at.now.image c.args.at.now.plan c.args.at.now.cert c.args.at.now.node c.args.at.now.point.addr c.args.at.now.point.state c.args.found.now.shape c.args.found.now.size
    c.rule_broken_by_successors-jumps.result c.rule_broken_by_call_or_syscall-entered.result c.rule_broken_by_misaligned_access-misaligned.result c.rule_broken_by_interrupts-irqs.result c.rule_broken_by_leaving-leave.result
    c.rule_broken_by_successors-jumps.ensures.found c.rule_broken_by_call_or_syscall-entered.ensures.found c.rule_broken_by_misaligned_access-misaligned.ensures c.rule_broken_by_interrupts-irqs.ensures
    (shape_found c.args.at.now.cert c.args.at.now.node c.args.at.now.point.state c.args.found.now.shape c.rule_broken_by_leaving-leave.result (rw (← c.at.view_is) c.rule_broken_by_leaving-leave.ensures)))
