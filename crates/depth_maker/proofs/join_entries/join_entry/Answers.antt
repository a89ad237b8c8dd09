use Rattle.std.proofs.Common.{sym, ◌∙◌}
use Rattle.vd_transfer.specs.Changes.{state_after}
use Rattle.cfg_recover.specs.Duties.{enter}
use Rattle.depth_maker.proofs.PartLemmas.{has_duty, enter_asks, on_enter, duties_queued}
use Rattle.depth_maker.proofs.join_entries.join_entry.Goals as goal

pub returns-then-is_place_queued-clause-ok : goal.returns-then-is_place_queued-clause-ok
returns-then-is_place_queued-clause-ok c rule = duties_queued _ _ _ _ _ _ c.args.table.now _ c.requires.visited (sym (c.is_place_queued.ensures _ c.requires.visited.stands) ∙ c.if-is_place_queued.true)

pub join_at_place-requires-clause-fine : goal.join_at_place-requires-clause-fine
join_at_place-requires-clause-fine c = c.requires.visited.fine

pub join_at_place-requires-clause-near : goal.join_at_place-requires-clause-near
join_at_place-requires-clause-near c = c.requires.visited.stands

pub join_at_place-requires-clause-incoming : goal.join_at_place-requires-clause-incoming
join_at_place-requires-clause-incoming c =
    let v = c.args.v.now in
    enter_asks _ _ _ v.key v.addr v.state.now c.args.table.now c.args.key (state_after v.state.now c.args.c.now)
    (has_duty _ _ _ v.key v.addr v.state.now c.args.table.now (enter c.args.key (state_after v.state.now c.args.c.now)) c.requires.visited (sym (c.is_place_queued.ensures _ c.requires.visited.stands) ∙ c.if-is_place_queued.false) c.requires.owes)

pub join_at_place-requires-clause-at : goal.join_at_place-requires-clause-at
join_at_place-requires-clause-at c = c.requires.visited.at (sym (c.is_place_queued.ensures _ c.requires.visited.stands) ∙ c.if-is_place_queued.false)

pub returns-clause-ok : goal.returns-clause-ok
returns-clause-ok c rule = on_enter _ _ _ c.args.v.now.key c.args.v.now.addr c.args.v.now.state.now c.args.table.now c.join_at_place.new.table rule c.args.key (state_after c.args.v.now.state.now c.args.c.now) c.join_at_place.result c.join_at_place.ensures.ok
