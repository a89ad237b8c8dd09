use Rattle.cfg_recover.proofs.NextLaws.{next_alone}
use Rattle.depth_check.proofs.successor_rules.rule_broken_by_successors.Goals as goal

pub returns-in-Branch-clause-found : goal.returns-in-Branch-clause-found
returns-in-Branch-clause-found c = rw (c.in-Branch.is, ← c.at.view_is) (rw (c.in-Branch.is, ← c.at.view_is) at c.rule_broken_by_branch.ensures)

pub returns-in-Jump-clause-found : goal.returns-in-Jump-clause-found
returns-in-Jump-clause-found c = rw c.in-Jump.is c.rule_broken_by_jump.ensures.found

pub returns-in_default-clause-found : goal.returns-in_default-clause-found
returns-in_default-clause-found c =
    let d = c.in_default in
    rw (next_alone c.args.at.now.bounds c.args.at.now.image c.args.at.now.plan c.args.at.now.point.addr c.args.at.now.point.state c.args.found.now.shape c.args.found.now.size
    d.not-Branch d.not-Jump d.not-Call d.not-Ret d.not-Rfe d.not-Syscall d.not-Mtcr)
    c.rule_broken_by_next.ensures.found
