use Rattle.std.proofs.Common.{subst}
use Rattle.value_domain.specs.Limits.{Limits}
use Rattle.value_domain.specs.State.{AreInLattice}
use Rattle.cfg_recover.specs.RulesHoldOrFail.{limits_of_cert}
use Rattle.depth_check.specs.LeastBroken.{lesser_broken_rule}
use Rattle.depth_check.proofs.IdleLaws.{idle_faultless, idle_found}
use Rattle.depth_check.proofs.RuleLaws.{duties_found}
use Rattle.depth_check.proofs.points.rule_broken_at.Goals as goal

pub returns-clause-found : goal.returns-clause-found
returns-clause-found c =
    let t = c.args.at.now in
    let s = t.point.state in
    let node = t.node in
    let p = t.point.addr in
    let b = limits_of_cert t.plan t.cert in
    let on = c.in-Some.ensures in
    rw (c.lesser_broken_rule-2.ensures, c.lesser_broken_rule.ensures, c.broken_rule_unless-need.ensures)
    (duties_found t.image t.plan t.cert node t.point on.shape on.size
    (rw (← c.at.view_is) (subst (λ (l : Limits). AreInLattice l (c.at.inside.point.state.now).regs) c.at.invariant.limits c.at.invariant.values))
    (idle_faultless b t.image t.plan node.key p s c.in-Some.next on) on.code
    (lesser_broken_rule c.rule_broken_by_kept_state-jump.result c.rule_broken_by_interrupts-irqs.result) c.is_need_sufficient.result
    (idle_found b t.image t.plan t.cert node p s c.in-Some.next on c.rule_broken_by_kept_state-jump.result c.rule_broken_by_interrupts-irqs.result c.rule_broken_by_kept_state-jump.ensures c.rule_broken_by_interrupts-irqs.ensures)
    c.is_need_sufficient.ensures)
