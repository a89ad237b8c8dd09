use Rattle.std.proofs.Common.{◌∷◌, [], sym, subst}
use Rattle.tc_machine.specs.Instructions.{wrapping_sum}
use Rattle.value_domain.specs.declared.states.State.{State}
use Rattle.cfg_recover.specs.Duties.{owed, jump, value_loaded_by_shape}
use Rattle.depth_check.specs.LeastBroken.{FindsLeastBrokenByDuties}
use Rattle.depth_check.specs.PointChecks.{point_check_data}
use Rattle.depth_check.proofs.successor_rules.rule_broken_by_next.Goals as goal

pub returns-then-may_skip_change-clause-found : goal.returns-then-may_skip_change-clause-found
returns-then-may_skip_change-clause-found c =
    let t = point_check_data c.at.inside in
    let s = t.point.state in
    let shape = c.args.found.now.shape in
    let same = c.may_skip_change.ensures c.if-may_skip_change.true t.bounds t.plan s (value_loaded_by_shape t.bounds t.image t.plan s shape) in
    rw (← c.at.view_is)
    (subst (λ (u : State). FindsLeastBrokenByDuties t (owed 4 (jump (wrapping_sum t.point.addr c.args.found.now.size) u) ∷ []) c.rule_broken_by_kept_state.result) (sym same) (rw (← c.at.view_is) at c.rule_broken_by_kept_state.ensures))
