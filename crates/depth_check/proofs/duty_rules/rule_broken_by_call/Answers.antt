use Rattle.std.proofs.Common.{List, [], ◌∷◌, ℕ, Option, sym, subst}
use Rattle.std.specs.Prelude.{unwrap_or}
use Rattle.std.specs.List.{flat_map}
use Rattle.value_domain.specs.declared.states.State.{State}
use Rattle.cfg_recover.specs.Entries.{call_key, call_entry}
use Rattle.cfg_recover.specs.LocalRules.{targets_of}
use Rattle.cfg_recover.specs.Duties.{entry_and_return}
use Rattle.depth_check.specs.LeastBroken.{FindsLeastBroken}
use Rattle.depth_check.specs.DutiesHold.{DutiesHold}
use Rattle.depth_check.specs.PointChecks.{point_check_data}
use Rattle.depth_check.proofs.RuleLaws.{values_well}
use Rattle.depth_check.proofs.duty_rules.rule_broken_by_call.Goals as goal

pub rule_broken_by_call_targets-requires : goal.rule_broken_by_call_targets-requires
rule_broken_by_call_targets-requires c = rw (← c.at.view_is) (values_well c.at.inside.bounds.now _ c.call_entry_change-entry.ensures.values)

pub rule_broken_by_calli-requires-clause-entry : goal.rule_broken_by_calli-requires-clause-entry
rule_broken_by_calli-requires-clause-entry c = rw (← c.at.view_is) (values_well c.at.inside.bounds.now _ c.call_entry_change-entry.ensures.values)

pub returns-in-Some : goal.returns-in-Some
returns-in-Some c =
    let t = point_check_data c.at.inside in
    let s = t.point.state in
    let one = (rw c.in-Some.is at c.direct_target.ensures.one) t.plan s in
    rw (← c.at.view_is)
    (subst (λ (o : Option (List ℕ)). FindsLeastBroken (DutiesHold t.cert t.node s (flat_map (λ t2. entry_and_return 5 (call_key (t.node).key t2) (call_entry s) c.args.back) (unwrap_or o []))) c.rule_broken_by_call_targets.result) (sym one)
    (subst (λ (u : State). FindsLeastBroken (DutiesHold t.cert t.node s (flat_map (λ t2. entry_and_return 5 (call_key (t.node).key t2) u c.args.back) (c.in-Some.target ∷ []))) c.rule_broken_by_call_targets.result)
    c.call_entry_change-entry.ensures.entry (rw (← c.at.view_is) at c.rule_broken_by_call_targets.ensures)))

pub returns-in-None : goal.returns-in-None
returns-in-None c =
    let t = point_check_data c.at.inside in
    let s = t.point.state in
    rw (← c.at.view_is)
    (subst (λ (u : State). FindsLeastBroken (DutiesHold t.cert t.node s (flat_map (λ t2. entry_and_return 5 (call_key (t.node).key t2) u c.args.back) (unwrap_or (targets_of t.plan s t.point.addr c.args.to) []))) c.rule_broken_by_calli.result)
    c.call_entry_change-entry.ensures.entry (rw (← c.at.view_is) at c.rule_broken_by_calli.ensures))
