use Rattle.std.proofs.Common.{List, subst, ap, ◌∙◌}
use Rattle.depth_cert.specs.declared.keys.Key.{Key}
use Rattle.depth_cert.specs.Nodes.{NodeData}
use Rattle.cfg_recover.specs.Entries.{irq_entry}
use Rattle.cfg_recover.specs.Duties.{Owed}
use Rattle.cfg_recover.proofs.FlowDuties.{duties_of_irqs-is}
use Rattle.depth_check.specs.LeastBroken.{FindsLeastBrokenByDuties}
use Rattle.depth_check.specs.PointChecks.{point_check_data}
use Rattle.depth_check.proofs.RuleLaws.{values_well}
use Rattle.depth_check.proofs.duty_rules.rule_broken_by_possible_irqs.Goals as goal

pub rule_broken_by_irqs-requires : goal.rule_broken_by_irqs-requires
rule_broken_by_irqs-requires c = rw (← c.at.view_is) (values_well c.at.inside.bounds.now _ c.handler_entry_change-entry.ensures.values)

pub returns : goal.returns
returns c =
    let t = point_check_data c.at.inside in
    let same = ap (λ (n : NodeData). n.key) c.node.view_is in
    rw (← c.at.view_is)
    (subst (λ (l : List Owed). FindsLeastBrokenByDuties t l c.rule_broken_by_irqs.result)
    (duties_of_irqs-is t.plan (t.node).key t.point.state _ _ (c.handler_entry_change-entry.ensures.entry ∙ ap (λ (k : Key). irq_entry t.plan k t.point.state 0) same) (rw (← c.at.view_is) at c.requires))
    (rw (← c.at.view_is) at c.rule_broken_by_irqs.ensures))
