use Rattle.std.proofs.Common.{◌++◌}
use Rattle.cfg_recover.specs.Duties.{duties_of, exit_duties_of}
use Rattle.depth_maker.specs.VisitDuties.{misaligned_duties, entry_duties, interrupt_duties, successor_duties}
use Rattle.depth_maker.proofs.Lawful.{lawful}
use Rattle.depth_maker.proofs.PartLemmas.{on_five, owes_back, owes_duties, owes_front, visited_after}
use Rattle.depth_maker.proofs.visit.join_visit_duties.Goals as goal

pub returns-clause-ok : goal.returns-clause-ok
unfolding duties_of
returns-clause-ok c =
    let v = c.args.v.now in
    let f = c.args.found.now in
    on_five _ _ _ v.key v.addr v.state.now (lawful _ _ _ v.ground.now.sound) c.args.table.now c.join_successors.new.table c.join_entry_duties.new.table c.join_misaligned_duties.new.table c.join_irq_duties.new.table c.join_exit_if_leaving.new.table
    (successor_duties v f) (entry_duties v f.shape f.size) (misaligned_duties v f) (interrupt_duties v) (exit_duties_of v.key v.state.now f.shape) c.join_exit_if_leaving.result c.requires.visited
    (owes_duties _ _ _ v.key v.addr v.state.now f c.requires.found) c.in_ok-join_successors.ensures.ok c.in_ok-join_entry_duties.ensures.ok c.in_ok-join_misaligned_duties.ensures.ok c.in_ok-join_irq_duties.ensures.ok c.join_exit_if_leaving.ensures.ok

pub join_successors-requires-clause-owes : goal.join_successors-requires-clause-owes
unfolding duties_of
join_successors-requires-clause-owes c =
    let v = c.args.v.now in
    let f = c.args.found.now in
    let a = successor_duties v f in let b = entry_duties v f.shape f.size in let d = misaligned_duties v f in let e = interrupt_duties v in let l = exit_duties_of v.key v.state.now f.shape in
    owes_front _ _ _ v.key v.addr v.state.now a b (owes_front _ _ _ v.key v.addr v.state.now (a ++ b) d (owes_front _ _ _ v.key v.addr v.state.now (a ++ b ++ d) e (owes_front _ _ _ v.key v.addr v.state.now (a ++ b ++ d ++ e) l (owes_duties _ _ _ v.key v.addr v.state.now f c.requires.found))))

pub join_entry_duties-requires-clause-owes : goal.join_entry_duties-requires-clause-owes
unfolding duties_of
join_entry_duties-requires-clause-owes c =
    let v = c.args.v.now in
    let f = c.args.found.now in
    let a = successor_duties v f in let b = entry_duties v f.shape f.size in let d = misaligned_duties v f in let e = interrupt_duties v in let l = exit_duties_of v.key v.state.now f.shape in
    owes_back _ _ _ v.key v.addr v.state.now a b (owes_front _ _ _ v.key v.addr v.state.now (a ++ b) d (owes_front _ _ _ v.key v.addr v.state.now (a ++ b ++ d) e (owes_front _ _ _ v.key v.addr v.state.now (a ++ b ++ d ++ e) l (owes_duties _ _ _ v.key v.addr v.state.now f c.requires.found))))

pub join_misaligned_duties-requires-clause-owes : goal.join_misaligned_duties-requires-clause-owes
unfolding duties_of
join_misaligned_duties-requires-clause-owes c =
    let v = c.args.v.now in
    let f = c.args.found.now in
    let a = successor_duties v f in let b = entry_duties v f.shape f.size in let d = misaligned_duties v f in let e = interrupt_duties v in let l = exit_duties_of v.key v.state.now f.shape in
    owes_back _ _ _ v.key v.addr v.state.now (a ++ b) d (owes_front _ _ _ v.key v.addr v.state.now (a ++ b ++ d) e (owes_front _ _ _ v.key v.addr v.state.now (a ++ b ++ d ++ e) l (owes_duties _ _ _ v.key v.addr v.state.now f c.requires.found)))

pub join_irq_duties-requires-clause-owes : goal.join_irq_duties-requires-clause-owes
unfolding duties_of
join_irq_duties-requires-clause-owes c =
    let v = c.args.v.now in
    let f = c.args.found.now in
    let a = successor_duties v f in let b = entry_duties v f.shape f.size in let d = misaligned_duties v f in let e = interrupt_duties v in let l = exit_duties_of v.key v.state.now f.shape in
    owes_back _ _ _ v.key v.addr v.state.now (a ++ b ++ d) e (owes_front _ _ _ v.key v.addr v.state.now (a ++ b ++ d ++ e) l (owes_duties _ _ _ v.key v.addr v.state.now f c.requires.found))

pub join_exit_if_leaving-requires-clause-owes : goal.join_exit_if_leaving-requires-clause-owes
unfolding duties_of
join_exit_if_leaving-requires-clause-owes c =
    let v = c.args.v.now in
    let f = c.args.found.now in
    let a = successor_duties v f in let b = entry_duties v f.shape f.size in let d = misaligned_duties v f in let e = interrupt_duties v in let l = exit_duties_of v.key v.state.now f.shape in
    owes_back _ _ _ v.key v.addr v.state.now (a ++ b ++ d ++ e) l (owes_duties _ _ _ v.key v.addr v.state.now f c.requires.found)

pub join_entry_duties-requires-clause-visited : goal.join_entry_duties-requires-clause-visited
join_entry_duties-requires-clause-visited c = let v = c.args.v.now in visited_after _ _ _ v.key v.addr v.state.now c.args.table.now _ _ c.requires.visited c.in_ok-join_successors.ensures.ok

pub join_misaligned_duties-requires-clause-visited : goal.join_misaligned_duties-requires-clause-visited
join_misaligned_duties-requires-clause-visited c =
    let v = c.args.v.now in
    visited_after _ _ _ v.key v.addr v.state.now _ _ _ (visited_after _ _ _ v.key v.addr v.state.now c.args.table.now _ _ c.requires.visited c.in_ok-join_successors.ensures.ok) c.in_ok-join_entry_duties.ensures.ok

pub join_irq_duties-requires-clause-visited : goal.join_irq_duties-requires-clause-visited
join_irq_duties-requires-clause-visited c =
    let v = c.args.v.now in
    visited_after _ _ _ v.key v.addr v.state.now _ _ _
    (visited_after _ _ _ v.key v.addr v.state.now _ _ _ (visited_after _ _ _ v.key v.addr v.state.now c.args.table.now _ _ c.requires.visited c.in_ok-join_successors.ensures.ok) c.in_ok-join_entry_duties.ensures.ok)
    c.in_ok-join_misaligned_duties.ensures.ok

pub join_exit_if_leaving-requires-clause-visited : goal.join_exit_if_leaving-requires-clause-visited
join_exit_if_leaving-requires-clause-visited c =
    let v = c.args.v.now in
    visited_after _ _ _ v.key v.addr v.state.now _ _ _
    (visited_after _ _ _ v.key v.addr v.state.now _ _ _
    (visited_after _ _ _ v.key v.addr v.state.now _ _ _ (visited_after _ _ _ v.key v.addr v.state.now c.args.table.now _ _ c.requires.visited c.in_ok-join_successors.ensures.ok) c.in_ok-join_entry_duties.ensures.ok)
    c.in_ok-join_misaligned_duties.ensures.ok)
    c.in_ok-join_irq_duties.ensures.ok
