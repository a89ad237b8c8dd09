use Rattle.std.proofs.Common.{◌≡◌, ap, subst}
use Rattle.value_domain.specs.Limits.{Limits}
use Rattle.value_domain.specs.State.{AreInLattice}
use Rattle.depth_cert.specs.declared.keys.Key.{Key}
use Rattle.depth_cert.specs.Nodes.{NodeData}
use Rattle.cfg_recover.specs.LocalFaults.{IsFaultlessShape, IsLocalFault}
use Rattle.cfg_recover.specs.Duties.{duties_of}
use Rattle.depth_check.specs.LeastBroken.{FindsLeastBroken}
use Rattle.depth_check.specs.DutiesHold.{DutiesHold}
use Rattle.depth_check.specs.PointChecks.{point_check_data}
use Rattle.depth_check.proofs.RuleLaws.{own_broken, duties_found}
use Rattle.depth_check.proofs.points.rule_broken_by_decoded_point.Goals as goal

pub returns-in-Err-clause-found : goal.returns-in-Err-clause-found
returns-in-Err-clause-found c =
    let t = point_check_data c.at.inside in
    let key : c.node.inside.key ≡ t.node.key = ap (λ (n : NodeData). n.key) c.node.view_is in
    rw (← c.at.view_is)
    (own_broken t.image t.plan t.cert t.node t.point t.bounds c.in-Err.rule c.at.invariant.limits c.at.invariant.values
    (subst (λ (k : Key). IsLocalFault t.bounds t.image t.plan k t.point.addr t.point.state c.in-Err.rule) key (c.in-Err.ensures.fault t.image t.point.addr c.decode_cached-located.ensures.code)))

pub rule_broken_by_duties-duties-requires-clause-found : goal.rule_broken_by_duties-duties-requires-clause-found
rule_broken_by_duties-duties-requires-clause-found c =
    let t = point_check_data c.at.inside in
    let key : c.node.inside.key ≡ t.node.key = ap (λ (n : NodeData). n.key) c.node.view_is in
    rw (← c.at.view_is)
    (subst (λ (k : Key). IsFaultlessShape t.bounds t.image t.plan k t.point.addr t.point.state c.in-Ok.found.now) key
    (c.in-Ok.ensures.found t.image t.point.addr c.decode_cached-located.ensures.code))

pub returns-in-Ok-clause-found : goal.returns-in-Ok-clause-found
returns-in-Ok-clause-found c =
    let t = point_check_data c.at.inside in
    let found = c.in-Ok.found.now in
    let key : c.node.inside.key ≡ t.node.key = ap (λ (n : NodeData). n.key) c.node.view_is in
    let here =
    subst (λ (k : Key). IsFaultlessShape t.bounds t.image t.plan k t.point.addr t.point.state found) key
    (c.in-Ok.ensures.found t.image t.point.addr c.decode_cached-located.ensures.code)
    in
    let stands = subst (λ (b : Limits). IsFaultlessShape b t.image t.plan (t.node).key t.point.addr t.point.state found) c.at.invariant.limits here in
    rw (c.lesser_broken_rule.ensures, c.broken_rule_unless-need.ensures, ← c.at.view_is)
    (duties_found t.image t.plan t.cert t.node t.point found.shape found.size
    (subst (λ (b : Limits). AreInLattice b (t.point.state).regs) c.at.invariant.limits c.at.invariant.values)
    stands.faultless stands.code
    c.rule_broken_by_duties-duties.result c.is_need_sufficient.result
    (subst (λ (b : Limits). FindsLeastBroken (DutiesHold t.cert t.node t.point.state (duties_of b t.image t.plan (t.node).key t.point.addr t.point.state found.shape found.size)) c.rule_broken_by_duties-duties.result) c.at.invariant.limits (rw (← c.at.view_is) at c.rule_broken_by_duties-duties.ensures.found))
    (rw (← c.at.view_is) at c.is_need_sufficient.ensures))
