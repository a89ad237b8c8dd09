use Rattle.cfg_recover.specs.Duties.{value_loaded_by_shape}
use Rattle.depth_maker.proofs.visit.write_step_change.Goals as goal

pub returns-then-write_change-clause-change : goal.returns-then-write_change-clause-change
returns-then-write_change-clause-change c =
    let v = c.args.v.now in
    let g = v.ground.now in
    c.write_change.ensures.change c.if-write_change.true (value_loaded_by_shape g.bounds.now g.image.now g.plan.now v.state.now c.args.shape)
