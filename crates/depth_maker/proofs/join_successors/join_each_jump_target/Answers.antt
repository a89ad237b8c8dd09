use Rattle.std.proofs.Common.{sym, subst, ℕ, [], ◌∷◌, List, get_or}
use Rattle.std.proofs.lemmas.List.{take_all}
use Rattle.value_domain.specs.declared.states.State.{State}
use Rattle.cfg_recover.specs.Duties.{owed, jump, jump_duties_to}
use Rattle.depth_maker.specs.VisitDuties.{OwesDuty, JoinsDuties}
use Rattle.depth_maker.proofs.Lawful.{lawful}
use Rattle.depth_maker.proofs.PartLemmas.{owes_at_map, duties_more_map, duties_none, visited_after}
use Rattle.depth_maker.proofs.join_successors.join_each_jump_target.Goals as goal

pub loop-t-init : goal.loop-t-init
loop-t-init c = duties_none _ _ _ c.args.v.now.key c.args.v.now.addr c.args.v.now.state.now c.args.table.now c.requires.visited.fine

pub join_successor-requires-clause-visited : goal.join_successor-requires-clause-visited
join_successor-requires-clause-visited c =
    let v = c.args.v.now in
    visited_after _ _ _ v.key v.addr v.state.now c.args.table.now _ _ c.requires.visited c.loop-t.invariant

pub join_successor-requires-clause-owes : goal.join_successor-requires-clause-owes
join_successor-requires-clause-owes c =
    let v = c.args.v.now in
    let t = get_or c.args.targets.now c.loop-t.t-index 0 in
    subst (λ (s : State). OwesDuty v (jump t s)) (sym c.set_to_identity.ensures.same)
    (owes_at_map _ _ _ v.key v.addr v.state.now (λ (n : ℕ). owed 4 (jump n v.state.now)) c.args.targets.now c.loop-t.t-index c.loop-t-test.true c.requires.owes)

pub loop-t-preserved : goal.loop-t-preserved
loop-t-preserved c =
    let v = c.args.v.now in
    let t = get_or c.args.targets.now c.loop-t.t-index 0 in
    duties_more_map _ _ _ v.key v.addr v.state.now (lawful _ _ _ v.ground.now.sound) c.args.table.now c.loop-t.table c.join_successor.new.table (λ (n : ℕ). owed 4 (jump n v.state.now)) c.args.targets.now c.loop-t.t-index c.loop-t-test.true
    c.requires.visited c.requires.owes c.loop-t.invariant
    (subst (λ (s : State). JoinsDuties v c.loop-t.table c.join_successor.new.table (owed 4 (jump t s) ∷ [])) c.set_to_identity.ensures.same c.in_ok-join_successor.ensures.ok)

pub returns-clause-ok : goal.returns-clause-ok
returns-clause-ok c =
    subst (λ (l : List ℕ). JoinsDuties c.args.v.now c.args.table.now c.loop-t.table (jump_duties_to c.args.v.now.state.now l)) (take_all c.loop-t.t-index c.args.targets.now c.loop-t-test.false) c.loop-t.invariant
