use Rattle.std.proofs.Common.{Option, None, Bool, ap, sym, subst, ◌∙◌}
use Rattle.value_domain.specs.declared.states.State.{State}
use Rattle.vd_transfer.specs.Changes.{state_after}
use Rattle.vd_transfer.specs.Branches.{state_if_possible}
use Rattle.cfg_recover.specs.Duties.{branch_duty}
use Rattle.depth_check.specs.LeastBroken.{broken_rule_unless, FindsLeastBrokenByDuties}
use Rattle.depth_check.specs.PointChecks.{point_check_data}
use Rattle.depth_check.proofs.DutyLaws.{nothing_found, point_found}
use Rattle.depth_check.proofs.RuleLaws.{values_well}
use Rattle.depth_check.proofs.successor_rules.rule_broken_by_refined_side.Goals as goal

pub is_changed_state_covered-requires : goal.is_changed_state_covered-requires
is_changed_state_covered-requires c = rw (← c.at.view_is) (values_well c.at.inside.bounds.now _ c.write_branch_change.ensures.values)

pub returns-then-not-write_branch_change : goal.returns-then-not-write_branch_change
returns-then-not-write_branch_change c =
    let t = point_check_data c.at.inside in
    let s = t.point.state in
    let told = ap (λ (b : Bool). state_if_possible b (state_after s c.write_branch_change.new.c)) (sym c.if-not-write_branch_change.true) ∙ c.write_branch_change.ensures.refine in
    rw (← c.at.view_is) (subst (λ (o : Option State). FindsLeastBrokenByDuties t (branch_duty c.args.to o) None) told (nothing_found t.cert t.node s))

pub returns : goal.returns
returns c =
    let t = point_check_data c.at.inside in
    let s = t.point.state in
    let told = ap (λ (b : Bool). state_if_possible b (state_after s c.write_branch_change.new.c)) (sym c.if-not-write_branch_change.false) ∙ c.write_branch_change.ensures.refine in
    rw (c.broken_rule_unless.ensures, ← c.at.view_is)
    (subst (λ (o : Option State). FindsLeastBrokenByDuties t (branch_duty c.args.to o) (broken_rule_unless c.is_changed_state_covered.result 4)) told
    (point_found t.cert t.node s (state_after s c.write_branch_change.new.c) c.args.to c.is_changed_state_covered.result (rw (← c.at.view_is) at c.is_changed_state_covered.ensures)))
