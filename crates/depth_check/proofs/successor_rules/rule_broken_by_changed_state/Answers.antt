use Rattle.std.proofs.Common.{subst, [], ◌∷◌}
use Rattle.value_domain.specs.declared.states.State.{State}
use Rattle.tc_machine.specs.Instructions.{wrapping_sum}
use Rattle.vd_transfer.specs.Changes.{state_after}
use Rattle.cfg_recover.specs.Duties.{owed, jump}
use Rattle.depth_check.specs.LeastBroken.{broken_rule_unless, FindsLeastBrokenByDuties}
use Rattle.depth_check.specs.PointChecks.{point_check_data}
use Rattle.depth_check.proofs.DutyLaws.{point_found}
use Rattle.depth_check.proofs.RuleLaws.{values_well}
use Rattle.depth_check.proofs.successor_rules.rule_broken_by_changed_state.Goals as goal

pub is_changed_state_covered-requires : goal.is_changed_state_covered-requires
is_changed_state_covered-requires c = values_well c.args.at.now.bounds _ c.write_change_at.ensures.values

pub returns-clause-found : goal.returns-clause-found
returns-clause-found c =
    let t = point_check_data c.at.inside in
    let s = t.point.state in
    let there = wrapping_sum t.point.addr c.args.found.now.size in
    rw (c.broken_rule_unless.ensures, ← c.at.view_is)
    (subst (λ (u : State). FindsLeastBrokenByDuties t (owed 4 (jump there u) ∷ []) (broken_rule_unless c.is_changed_state_covered.result 4)) (rw (← c.at.view_is) at c.write_change_at.ensures.change)
    (point_found t.cert t.node s (state_after s c.write_change_at.new.scratch.change) there c.is_changed_state_covered.result (rw (← c.at.view_is) at c.is_changed_state_covered.ensures)))
