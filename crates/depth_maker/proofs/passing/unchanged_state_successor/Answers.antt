use Rattle.depth_maker.proofs.PassingLaws.{jump_passes, nothing_passes}
use Rattle.depth_maker.proofs.passing.unchanged_state_successor.Goals as goal

pub returns-in-Nothing : goal.returns-in-Nothing
returns-in-Nothing c =
    let v = c.args.site.now in
    nothing_passes v.ground.now.image.now v.ground.now.plan.now v.addr c.in-Some.found.size (rw (c.in-Some.is, c.in-Nothing.is) at c.requires.code) (rw (c.in-Some.is, c.in-Nothing.is) at c.requires.shape)

pub returns-in-Jump : goal.returns-in-Jump
returns-in-Jump c =
    let v = c.args.site.now in
    jump_passes v.ground.now.image.now v.ground.now.plan.now v.addr c.in-Some.found.size c.in-Jump.to c.direct_target.result (rw (c.in-Some.is, c.in-Jump.is) at c.requires.code)
    (rw (c.in-Some.is, c.in-Jump.is) at c.requires.shape) c.direct_target.ensures.one
