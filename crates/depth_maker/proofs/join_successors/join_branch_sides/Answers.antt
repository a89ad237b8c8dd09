use Rattle.cfg_recover.specs.Duties.{branch_duty}
use Rattle.depth_maker.specs.VisitDuties.{side_state}
use Rattle.depth_maker.proofs.Lawful.{lawful}
use Rattle.depth_maker.proofs.PartLemmas.{owes_front, owes_back, visited_after, on_both}
use Rattle.depth_maker.proofs.join_successors.join_branch_sides.Goals as goal

pub join_branch_side-requires-clause-owes : goal.join_branch_side-requires-clause-owes
join_branch_side-requires-clause-owes c =
    let v = c.args.v.now in
    owes_front _ _ _ v.key v.addr v.state.now (branch_duty c.args.next.to (side_state v c.args.next.shape c.args.next.taken)) (branch_duty c.args.taken.to (side_state v c.args.taken.shape c.args.taken.taken)) c.requires.owes

pub join_branch_side-requires-2-clause-visited : goal.join_branch_side-requires-2-clause-visited
join_branch_side-requires-2-clause-visited c =
    let v = c.args.v.now in
    visited_after _ _ _ v.key v.addr v.state.now c.args.table.now _ _ c.requires.visited c.in_ok-join_branch_side.ensures.ok

pub join_branch_side-requires-2-clause-owes : goal.join_branch_side-requires-2-clause-owes
join_branch_side-requires-2-clause-owes c =
    let v = c.args.v.now in
    owes_back _ _ _ v.key v.addr v.state.now (branch_duty c.args.next.to (side_state v c.args.next.shape c.args.next.taken)) (branch_duty c.args.taken.to (side_state v c.args.taken.shape c.args.taken.taken)) c.requires.owes

pub returns-clause-ok : goal.returns-clause-ok
returns-clause-ok c =
    let v = c.args.v.now in
    let ds = branch_duty c.args.next.to (side_state v c.args.next.shape c.args.next.taken) in
    let es = branch_duty c.args.taken.to (side_state v c.args.taken.shape c.args.taken.taken) in
    on_both _ _ _ v.key v.addr v.state.now (lawful _ _ _ v.ground.now.sound) c.args.table.now c.join_branch_side.new.table _ ds es _ c.requires.visited
    (owes_front _ _ _ v.key v.addr v.state.now ds es c.requires.owes) c.in_ok-join_branch_side.ensures.ok c.join_branch_side-2.ensures.ok
