use Rattle.std.proofs.Common.{refl}
use Rattle.depth_maker.proofs.Lawful.{lawful}
use Rattle.depth_maker.proofs.PartLemmas.{exits_registered, readers_registered, registered_fine, visited_known, visited_kept, on_from}
use Rattle.depth_maker.proofs.join_entries.read_exit_and_join_return.Goals as goal

pub join_return-requires-clause-visited : goal.join_return-requires-clause-visited
join_return-requires-clause-visited c =
    let v = c.args.v.now in
    let m = record c.args.table.now { readers = c.register_reader.new.readers } in
    let r = registered_fine _ _ _ (lawful _ _ _ v.ground.now.sound) c.args.table.now m refl refl refl refl refl refl c.in_ok-register_reader.ensures.kept
    (exits_registered _ _ c.args.key _ c.in_ok-register_reader.ensures c.requires.visited.fine.exits)
    (readers_registered c.args.table.now.places c.args.table.now.readers c.register_reader.new.readers _ _ c.in_ok-register_reader.ensures (visited_known _ _ _ c.args.table.now v.key v.addr v.state.now c.requires.visited) c.requires.visited.fine.readers) c.requires.visited.fine in
    visited_kept _ _ _ v.key v.addr v.state.now c.args.table.now m c.requires.visited r.0 r.1

pub returns-clause-ok : goal.returns-clause-ok
returns-clause-ok c =
    let v = c.args.v.now in
    let m = record c.args.table.now { readers = c.register_reader.new.readers } in
    let r = registered_fine _ _ _ (lawful _ _ _ v.ground.now.sound) c.args.table.now m refl refl refl refl refl refl c.in_ok-register_reader.ensures.kept
    (exits_registered _ _ c.args.key _ c.in_ok-register_reader.ensures c.requires.visited.fine.exits)
    (readers_registered c.args.table.now.places c.args.table.now.readers c.register_reader.new.readers _ _ c.in_ok-register_reader.ensures (visited_known _ _ _ c.args.table.now v.key v.addr v.state.now c.requires.visited) c.requires.visited.fine.readers) c.requires.visited.fine in
    on_from _ _ _ v.key v.addr v.state.now c.args.table.now m c.join_return.new.table _ c.join_return.result r.1 c.join_return.ensures.ok
