use Rattle.cfg_recover.proofs.OperationLaws.{same_word, is_nothing}
use Rattle.depth_check.specs.PointChecks.{point_check_data}
use Rattle.depth_check.proofs.Deciding.{not_another}
use Rattle.depth_check.proofs.CallLaws.{calls_kept, kept_calls}
use Rattle.depth_check.proofs.duty_rules.rule_broken_by_call_unless_known.Goals as goal

pub returns-then-ne-clause-found : goal.returns-then-ne-clause-found
returns-then-ne-clause-found c = rw c.in-Reg.is c.rule_broken_by_call-then-ne.ensures

pub returns-then-eq-clause-found : goal.returns-then-eq-clause-found
returns-then-eq-clause-found c =
    let t = point_check_data c.at.inside in
    rw (c.in-Reg.is, ← c.at.view_is)
    (kept_calls t.plan t.cert t.node t.point.state c.in-Reg.r c.args.called.now c.at.inside.point.next c.args.back (same_word c.args.called.now c.in-Reg.r c.eq.result c.eq.ensures c.if-eq.true)
    (not_another c.at.inside.point.next c.args.back c.ne.result c.ne.ensures c.if-ne.false) (rw (← c.at.view_is) at c.requires.called) c.at.invariant.facts.next)

pub returns-then-is_none-clause-found : goal.returns-then-is_none-clause-found
returns-then-is_none-clause-found c = rw c.in-Reg.is c.rule_broken_by_call-found.ensures

pub returns-then-is_none-clause-called : goal.returns-then-is_none-clause-called
returns-then-is_none-clause-called c =
    let t = point_check_data c.at.inside in
    rw (← c.at.view_is)
    (calls_kept t.plan t.cert t.node t.point.state c.in-Reg.r c.at.inside.point.next c.args.back (not_another c.at.inside.point.next c.args.back c.ne.result c.ne.ensures c.if-ne.false) c.at.invariant.facts.next
    (rw (is_nothing c.rule_broken_by_call-found.result c.is_none.result c.is_none.ensures c.if-is_none.true, ← c.at.view_is) at c.rule_broken_by_call-found.ensures))
