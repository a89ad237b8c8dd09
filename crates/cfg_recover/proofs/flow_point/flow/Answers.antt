use Rattle.cfg_recover.proofs.FlowDuties.{room_of}
use Rattle.cfg_recover.proofs.flow_point.flow.Goals as goal

pub flow_of_faultless_point-requires-clause-room : goal.flow_of_faultless_point-requires-clause-room
flow_of_faultless_point-requires-clause-room c = room_of c.args.b.now c.args.image.now c.args.plan.now c.args.key.now c.args.addr c.args.s.now _ c.in-Ok.ensures
