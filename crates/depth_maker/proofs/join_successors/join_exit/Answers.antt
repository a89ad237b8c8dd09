use Rattle.std.proofs.Common.{sym, ◌∙◌}
use Rattle.cfg_recover.specs.Duties.{leave}
use Rattle.depth_cert.specs.Exits.{exit_of_state}
use Rattle.depth_maker.proofs.PartLemmas.{has_duty, leave_asks, on_leave, duties_queued}
use Rattle.depth_maker.proofs.join_successors.join_exit.Goals as goal

pub returns-then-is_place_queued-clause-ok : goal.returns-then-is_place_queued-clause-ok
returns-then-is_place_queued-clause-ok c rule = duties_queued _ _ _ _ _ _ c.args.table.now _ c.requires.visited (sym (c.is_place_queued.ensures _ c.requires.visited.stands) ∙ c.if-is_place_queued.true)

pub join_at_place-requires-clause-fine : goal.join_at_place-requires-clause-fine
join_at_place-requires-clause-fine c = c.requires.visited.fine

pub join_at_place-requires-clause-near : goal.join_at_place-requires-clause-near
join_at_place-requires-clause-near c = c.requires.visited.stands

pub join_at_place-requires-clause-incoming : goal.join_at_place-requires-clause-incoming
join_at_place-requires-clause-incoming c =
    let v = c.args.v.now in
    leave_asks _ _ _ v.key v.addr v.state.now c.args.table.now (exit_of_state v.state.now)
    (has_duty _ _ _ v.key v.addr v.state.now c.args.table.now (leave (exit_of_state v.state.now)) c.requires.visited (sym (c.is_place_queued.ensures _ c.requires.visited.stands) ∙ c.if-is_place_queued.false) c.requires.owes)

pub join_at_place-requires-clause-at : goal.join_at_place-requires-clause-at
join_at_place-requires-clause-at c = c.requires.visited.at (sym (c.is_place_queued.ensures _ c.requires.visited.stands) ∙ c.if-is_place_queued.false)

pub returns-clause-ok : goal.returns-clause-ok
returns-clause-ok c rule = on_leave _ _ _ c.args.v.now.key c.args.v.now.addr c.args.v.now.state.now c.args.table.now c.join_at_place.new.table rule (exit_of_state c.args.v.now.state.now) c.join_at_place.result c.join_at_place.ensures.ok
