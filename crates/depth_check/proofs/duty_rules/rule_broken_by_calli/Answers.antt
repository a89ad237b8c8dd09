use Rattle.std.proofs.Common.{List, ℕ, ◌∙◌, subst}
use Rattle.std.specs.List.{flat_map}
use Rattle.vd_transfer.specs.Changes.{state_after}
use Rattle.cfg_recover.specs.Entries.{call_key}
use Rattle.cfg_recover.specs.Duties.{entry_and_return}
use Rattle.depth_check.specs.LeastBroken.{FindsLeastBroken}
use Rattle.depth_check.specs.DutiesHold.{DutiesHold}
use Rattle.depth_check.specs.PointChecks.{point_check_data}
use Rattle.depth_check.proofs.duty_rules.rule_broken_by_calli.Goals as goal

pub returns : goal.returns
returns c =
    let t = point_check_data c.at.inside in
    let s = t.point.state in
    rw (← c.at.view_is)
    (subst (λ (l : List ℕ). FindsLeastBroken (DutiesHold t.cert t.node s (flat_map (λ t2. entry_and_return 5 (call_key (t.node).key t2) (state_after s c.args.entry.now) c.args.back) l)) c.rule_broken_by_call_targets.result)
    (c.as_slice.ensures.value ∙ c.targets-targets.ensures) (rw (← c.at.view_is) at c.rule_broken_by_call_targets.ensures))
