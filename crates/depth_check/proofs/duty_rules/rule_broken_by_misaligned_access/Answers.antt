use Rattle.std.proofs.Common.{◌≡◌, true, List, None, ap, sym, subst, ◌∙◌}
use Rattle.tcd_plan.specs.PlanData.{PlanData}
use Rattle.cfg_recover.specs.Duties.{Owed, may_be_misaligned}
use Rattle.depth_check.specs.LeastBroken.{FindsLeastBrokenByDuties}
use Rattle.depth_check.proofs.DutyLaws.{nothing_found, untrapped_none}
use Rattle.depth_check.proofs.duty_rules.rule_broken_by_misaligned_access.Goals as goal

pub returns-then-not-plan : goal.returns-then-not-plan
returns-then-not-plan c =
    let t = c.args.at.now in
    subst (λ (l : List Owed). FindsLeastBrokenByDuties t l None)
    (untrapped_none t.bounds t.image t.plan (t.node).key t.point.addr t.point.state c.args.found.now c.requires
    (rw (← c.at.view_is) (ap (λ (p : PlanData). p.aln) (sym c.plan.view_is) ∙ c.if-not-plan.true)))
    (nothing_found t.cert t.node t.point.state)

pub returns : goal.returns
returns c =
    let t = c.args.at.now in
    let may : may_be_misaligned t.bounds t.plan t.point.state c.args.found.now.shape ≡ true = rw (← c.at.view_is) (sym c.may_be_misaligned.ensures ∙ c.if-not-may_be_misaligned.false) in
    rw may c.rule_broken_by_misaligned_entry.ensures
