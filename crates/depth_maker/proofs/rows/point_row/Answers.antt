use Rattle.std.proofs.Common.{subst, sym}
use Rattle.depth_cert.specs.Known.{state, IsKnownState}
use Rattle.frame_places.specs.declared.places.Spot.TheVariants.{Point}
use Rattle.depth_maker.specs.TableView.{view_of_table}
use Rattle.depth_maker.proofs.RowSteps.{all_known, done_well_formed, known_there, read_there}
use Rattle.depth_maker.proofs.rows.point_row.Goals as goal

pub write_state-requires : goal.write_state-requires
write_state-requires c =
    let s = c.args.source.now in
    let at = c.args.at.now in
    done_well_formed s.ground.now s.table.now (c.requires.source).done (Point at.key at.addr) _ (known_there s at c.requires.at)

pub check_local_rules-requires : goal.check_local_rules-requires
check_local_rules-requires c =
    let s = c.args.source.now in
    let at = c.args.at.now in
    let done = (c.requires.source).done in
    let there = read_there s.ground.now s.table.now done at.key at.addr _ c.state.result.now (known_there s at c.requires.at) (subst (IsKnownState at.known.now.value) (sym c.state.ensures) c.write_state.ensures) in
    (done_well_formed s.ground.now s.table.now done (Point at.key at.addr) (state c.state.result.now) there).values

pub visited_point_row-requires-clause-well_formed : goal.visited_point_row-requires-clause-well_formed
visited_point_row-requires-clause-well_formed c =
    let s = c.args.source.now in
    let at = c.args.at.now in
    let done = (c.requires.source).done in
    let there = read_there s.ground.now s.table.now done at.key at.addr _ c.state.result.now (known_there s at c.requires.at) (subst (IsKnownState at.known.now.value) (sym c.state.ensures) c.write_state.ensures) in
    done_well_formed s.ground.now s.table.now done (Point at.key at.addr) (state c.state.result.now) there

pub returns : goal.returns
unfolding view_of_table
returns c =
    let s = c.args.source.now in
    let at = c.args.at.now in
    let source = c.requires.source in
    let there = read_there s.ground.now s.table.now source.done at.key at.addr _ c.state.result.now (known_there s at c.requires.at) (subst (IsKnownState at.known.now.value) (sym c.state.ensures) c.write_state.ensures) in
    (c.state.result.now, there, c.in_ok-visited_point_row-in-Ok.ensures s.table.now.frames.items (record { all = source.numbers; taken = source.handlers }) (all_known _ s.table.now source.done there) (c.requires.at).node)

pub unreachable-requires : goal.unreachable-requires
unfolding view_of_table
unreachable-requires c =
    let s = c.args.source.now in
    let at = c.args.at.now in
    let done = (c.requires.source).done in
    let there = read_there s.ground.now s.table.now done at.key at.addr _ c.state.result.now (known_there s at c.requires.at) (subst (IsKnownState at.known.now.value) (sym c.state.ensures) c.write_state.ensures) in
    c.in-Err.ensures.fault.fails (done.faultless at.key at.addr c.state.result.now there _)
