use Rattle.cfg_recover.proofs.NextLaws.{next_alone}
use Rattle.depth_maker.proofs.join_successors.join_successors.Goals as goal

pub join_branch_sides-requires-clause-owes : goal.join_branch_sides-requires-clause-owes
join_branch_sides-requires-clause-owes c = rw c.in-Branch.is at c.requires.owes

pub returns-in-Branch-clause-ok : goal.returns-in-Branch-clause-ok
returns-in-Branch-clause-ok c = rw c.in-Branch.is c.join_branch_sides.ensures.ok

pub join_jump_targets-requires-clause-owes : goal.join_jump_targets-requires-clause-owes
join_jump_targets-requires-clause-owes c = rw c.in-Jump.is at c.requires.owes

pub returns-in-Jump-clause-ok : goal.returns-in-Jump-clause-ok
returns-in-Jump-clause-ok c = rw c.in-Jump.is c.join_jump_targets.ensures.ok

pub join_next_instruction-requires-clause-owes : goal.join_next_instruction-requires-clause-owes
join_next_instruction-requires-clause-owes c =
    let v = c.args.v.now in
    let d = c.in_default in
    rw (next_alone v.ground.now.bounds.now v.ground.now.image.now v.ground.now.plan.now v.addr v.state.now c.args.found.now.shape c.args.found.now.size
    d.not-Branch d.not-Jump d.not-Call d.not-Ret d.not-Rfe d.not-Syscall d.not-Mtcr)
    at c.requires.owes

pub returns-in_default-clause-ok : goal.returns-in_default-clause-ok
returns-in_default-clause-ok c =
    let v = c.args.v.now in
    let d = c.in_default in
    rw (next_alone v.ground.now.bounds.now v.ground.now.image.now v.ground.now.plan.now v.addr v.state.now c.args.found.now.shape c.args.found.now.size
    d.not-Branch d.not-Jump d.not-Call d.not-Ret d.not-Rfe d.not-Syscall d.not-Mtcr)
    c.join_next_instruction.ensures.ok
