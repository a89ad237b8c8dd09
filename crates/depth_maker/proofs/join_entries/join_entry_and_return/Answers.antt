use Rattle.std.proofs.Common.{[], ◌∷◌}
use Rattle.vd_transfer.specs.Changes.{state_after}
use Rattle.cfg_recover.specs.Duties.{owed, enter, resume}
use Rattle.depth_maker.proofs.Lawful.{lawful}
use Rattle.depth_maker.proofs.PartLemmas.{visited_after, owes_alone, on_both}
use Rattle.depth_maker.proofs.join_entries.join_entry_and_return.Goals as goal

pub read_exit_and_join_return-requires-clause-visited : goal.read_exit_and_join_return-requires-clause-visited
read_exit_and_join_return-requires-clause-visited c =
    let v = c.args.v.now in
    visited_after _ _ _ v.key v.addr v.state.now c.args.table.now _ _ c.requires.visited (c.in_ok-join_entry.ensures.ok 0)

pub returns-clause-ok : goal.returns-clause-ok
returns-clause-ok c rule =
    let v = c.args.v.now in
    let e = owed rule (enter c.args.key (state_after v.state.now c.args.c.now)) in
    let back = owed 4 (resume c.args.key c.args.back) in
    on_both _ _ _ v.key v.addr v.state.now (lawful _ _ _ v.ground.now.sound) c.args.table.now c.join_entry.new.table _ (e ∷ []) (back ∷ []) _ c.requires.visited
    (owes_alone _ _ _ v.key v.addr v.state.now e c.requires.enters) (c.in_ok-join_entry.ensures.ok rule) c.read_exit_and_join_return.ensures.ok
