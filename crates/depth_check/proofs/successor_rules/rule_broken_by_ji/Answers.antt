use Rattle.std.proofs.Common.{◌∙◌, List, [], ℕ, Option, Some, true, subst}
use Rattle.std.specs.Prelude.{IfSome, unwrap_or}
use Rattle.vd_transfer.specs.Registers.{reg_of}
use Rattle.cfg_recover.specs.LocalRules.{targets_of_value}
use Rattle.cfg_recover.specs.Duties.{jump_duties_to}
use Rattle.depth_check.specs.CheckedRegisters.{RegisterJumpsHold}
use Rattle.depth_check.specs.LeastBroken.{FindsLeastBroken}
use Rattle.depth_check.specs.DutiesHold.{DutiesHold, HasCoveringPoints}
use Rattle.cfg_recover.proofs.OperationLaws.{same_word}
use Rattle.depth_check.specs.PointChecks.{point_check_data}
use Rattle.depth_check.proofs.Deciding.{yes}
use Rattle.depth_check.proofs.DutyLaws.{points_found}
use Rattle.depth_check.proofs.successor_rules.rule_broken_by_ji.Goals as goal
use Rattle.depth_check.proofs.successor_rules.rule_broken_by_ji.Goals.{Then-has_covering_points}

pub returns-then-eq-clause-found : goal.returns-then-eq-clause-found
returns-then-eq-clause-found c =
    let t = c.args.at.now in
    let s = t.point.state in
    let holds : RegisterJumpsHold t.plan t.node s c.args.r =
    subst (λ (o : Option ℕ). IfSome o (RegisterJumpsHold t.plan t.node s)) (same_word c.args.jumped.now c.args.r c.eq.result c.eq.ensures c.if-eq.true) c.requires.jumped in
    points_found t.cert t.node s s (unwrap_or (targets_of_value (reg_of t.plan s c.args.r)) []) true (yes _ holds)

-- all targets have points
found_all : (c : Then-has_covering_points) → RegisterJumpsHold c.args.at.now.plan c.args.at.now.node c.args.at.now.point.state c.args.r
found_all c =
    let t = point_check_data c.at.inside in
    rw (← c.at.view_is)
    (subst (λ (l : List ℕ). HasCoveringPoints t.node t.point.state l) (c.as_slice.ensures.value ∙ c.targets-targets.ensures) ((rw (← c.at.view_is) at c.has_covering_points.ensures).0 c.if-has_covering_points.true))

pub returns-then-has_covering_points-clause-found : goal.returns-then-has_covering_points-clause-found
returns-then-has_covering_points-clause-found c =
    let t = c.args.at.now in
    let s = t.point.state in
    points_found t.cert t.node s s (unwrap_or (targets_of_value (reg_of t.plan s c.args.r)) []) true (yes _ (found_all c))

pub returns-then-has_covering_points-clause-jumped : goal.returns-then-has_covering_points-clause-jumped
returns-then-has_covering_points-clause-jumped c = found_all c

pub returns-else-has_covering_points-clause-found : goal.returns-else-has_covering_points-clause-found
returns-else-has_covering_points-clause-found c =
    let t = point_check_data c.at.inside in
    let s = t.point.state in
    rw (← c.at.view_is)
    (subst (λ (l : List ℕ). FindsLeastBroken (DutiesHold t.cert t.node s (jump_duties_to s l)) (Some 4)) (c.as_slice.ensures.value ∙ c.targets-targets.ensures)
    (rw c.if-has_covering_points.false at (points_found t.cert t.node s s c.as_slice.result.now c.has_covering_points.result (rw (← c.at.view_is) at c.has_covering_points.ensures))))
