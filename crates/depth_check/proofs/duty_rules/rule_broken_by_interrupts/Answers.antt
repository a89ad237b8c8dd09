use Rattle.std.proofs.Common.{List, None, subst, sym, ◌∙◌}
use Rattle.std.proofs.lemmas.Bool.{eqb-true}
use Rattle.cfg_recover.specs.Duties.{Owed}
use Rattle.depth_check.specs.LeastBroken.{FindsLeastBrokenByDuties}
use Rattle.depth_check.specs.PointChecks.{point_check_data}
use Rattle.depth_check.proofs.DutyLaws.{nothing_found, interrupts_none, disabled_none}
use Rattle.depth_check.proofs.duty_rules.rule_broken_by_interrupts.Goals as goal

pub returns-then-again : goal.returns-then-again
returns-then-again c = rw (← c.at.view_is) (c.at.invariant.facts.again c.if-again.true)

pub returns-then-not-enabled : goal.returns-then-not-enabled
returns-then-not-enabled c =
    let t = point_check_data c.at.inside in
    rw (← c.at.view_is)
    (subst (λ (l : List Owed). FindsLeastBrokenByDuties t l None) (disabled_none t.plan (t.node).key t.point.state c.if-not-enabled.true)
    (nothing_found t.cert t.node t.point.state))

pub returns-then-is_empty : goal.returns-then-is_empty
returns-then-is_empty c =
    let t = point_check_data c.at.inside in
    rw (← c.at.view_is)
    (subst (λ (l : List Owed). FindsLeastBrokenByDuties t l None) (interrupts_none t.plan (t.node).key t.point.state c.possible_irqs-irqs.result.items c.possible_irqs-irqs.ensures (eqb-true _ _ (sym c.is_empty.ensures ∙ c.if-is_empty.true)))
    (nothing_found t.cert t.node t.point.state))

pub rule_broken_by_possible_irqs-requires : goal.rule_broken_by_possible_irqs-requires
rule_broken_by_possible_irqs-requires c = rw (← c.at.view_is) (c.as_slice.ensures.value ∙ c.possible_irqs-irqs.ensures)
