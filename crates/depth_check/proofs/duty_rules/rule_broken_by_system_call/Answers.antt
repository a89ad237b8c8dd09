use Rattle.std.proofs.Common.{◌≡◌, ◌∙◌, ap, subst}
use Rattle.value_domain.specs.declared.states.State.{State}
use Rattle.depth_cert.specs.declared.keys.Key.{Key}
use Rattle.depth_cert.specs.Nodes.{NodeData}
use Rattle.cfg_recover.specs.Entries.{sys_key, sys_entry}
use Rattle.cfg_recover.specs.Duties.{entry_and_return}
use Rattle.depth_check.specs.LeastBroken.{FindsLeastBroken}
use Rattle.depth_check.specs.DutiesHold.{DutiesHold}
use Rattle.depth_check.specs.PointChecks.{point_check_data}
use Rattle.depth_check.proofs.RuleLaws.{values_well}
use Rattle.depth_check.proofs.duty_rules.rule_broken_by_system_call.Goals as goal

pub rule_broken_by_entry-requires-clause-entry : goal.rule_broken_by_entry-requires-clause-entry
rule_broken_by_entry-requires-clause-entry c = rw (← c.at.view_is) (values_well c.at.inside.bounds.now _ c.sys_entry_change-entry.ensures.values)

pub returns : goal.returns
returns c =
    let t = point_check_data c.at.inside in
    let key : c.sys_key-key.result ≡ sys_key t.plan (t.node).key =
    c.sys_key-key.ensures
    ∙ ap (λ (k : Key). sys_key t.plan k) (ap (λ (n : NodeData). n.key) c.node.view_is) in
    rw (← c.at.view_is)
    (subst (λ (k : Key). FindsLeastBroken (DutiesHold t.cert t.node t.point.state (entry_and_return 12 k (sys_entry t.plan (t.node).key t.point.state c.args.tin) c.args.back)) c.rule_broken_by_entry.result) key
    (subst (λ (u : State). FindsLeastBroken (DutiesHold t.cert t.node t.point.state (entry_and_return 12 c.sys_key-key.result u c.args.back)) c.rule_broken_by_entry.result) (c.sys_entry_change-entry.ensures.entry ∙ ap (λ (k : Key). sys_entry t.plan k t.point.state c.args.tin) (ap (λ (n : NodeData). n.key) c.node.view_is))
    (rw (← c.at.view_is) at c.rule_broken_by_entry.ensures)))
