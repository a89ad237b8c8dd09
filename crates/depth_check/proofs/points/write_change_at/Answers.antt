use Rattle.cfg_recover.specs.Duties.{value_loaded_by_shape}
use Rattle.depth_check.specs.PointChecks.{point_check_data}
use Rattle.depth_check.proofs.DutyLaws.{room_at}
use Rattle.depth_check.proofs.points.write_change_at.Goals as goal

pub returns-then-write_change-clause-change : goal.returns-then-write_change-clause-change
returns-then-write_change-clause-change c =
    let t = point_check_data c.at.inside in
    let s = t.point.state in
    rw (← c.at.view_is) (c.write_change.ensures.change c.if-write_change.true (value_loaded_by_shape t.bounds t.image t.plan s c.args.found.now.shape))

pub write_successor_change-requires-clause-room : goal.write_successor_change-requires-clause-room
write_successor_change-requires-clause-room c =
    let t = point_check_data c.at.inside in
    room_at t.bounds t.image t.plan (t.node).key t.point.addr t.point.state c.args.found.now (rw (← c.at.view_is) at c.requires.found)
