use Rattle.vd_transfer.specs.Changes.{state_after}
use Rattle.cfg_recover.specs.Duties.{jump}
use Rattle.depth_maker.proofs.PartLemmas.{has_duty_at, jump_asks, on_jump}
use Rattle.depth_maker.proofs.join_successors.join_first_successor.Goals as goal

pub join_at_place-requires-clause-fine : goal.join_at_place-requires-clause-fine
join_at_place-requires-clause-fine c = c.requires.visited.fine

pub join_at_place-requires-clause-near : goal.join_at_place-requires-clause-near
join_at_place-requires-clause-near c = c.requires.visited.stands

pub join_at_place-requires-clause-incoming : goal.join_at_place-requires-clause-incoming
join_at_place-requires-clause-incoming c =
    let v = c.args.v.now in
    jump_asks _ _ _ v.key v.addr v.state.now c.args.table.now c.args.to (state_after v.state.now c.args.c.now)
    (has_duty_at _ _ _ v.key v.addr v.state.now c.args.table.now (jump c.args.to (state_after v.state.now c.args.c.now)) c.requires.at c.requires.owes)

pub returns-clause-ok : goal.returns-clause-ok
returns-clause-ok c = on_jump _ _ _ c.args.v.now.key c.args.v.now.addr c.args.v.now.state.now c.args.table.now c.join_at_place.new.table 4 c.args.to (state_after c.args.v.now.state.now c.args.c.now) c.join_at_place.result c.join_at_place.ensures.ok
