use Rattle.task_chains.proofs.FaultLaws.{apart_found}
use Rattle.task_chains.proofs.rule_17.keeps_rule_17.Goals as goal

pub returns-in-Some : goal.returns-in-Some
returns-in-Some c =
    let r = c.args.rule.now in
    apart_found r.bounds.now r.view.now r.plan.now r.tasks.now c.args.key.now (record { addr = c.args.addr; state = c.args.s.now }) _ _ c.keeps_rule_17_by_shape.result c.in-Some.ensures.code c.keeps_rule_17_by_shape.ensures
