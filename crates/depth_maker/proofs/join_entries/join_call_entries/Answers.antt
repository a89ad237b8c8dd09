use Rattle.std.proofs.Common.{sym, subst, ℕ, List, [], ◌∷◌, get_or}
use Rattle.std.proofs.lemmas.List.{take_all}
use Rattle.value_domain.specs.declared.states.State.{State}
use Rattle.vd_transfer.specs.Changes.{state_after}
use Rattle.depth_cert.specs.declared.keys.Key.{Key}
use Rattle.cfg_recover.specs.Entries.{call_entry, call_key}
use Rattle.cfg_recover.specs.Duties.{enter, owed}
use Rattle.depth_maker.specs.VisitDuties.{enter_duties, JoinsDuties, OwesDuty}
use Rattle.depth_maker.proofs.Lawful.{lawful}
use Rattle.depth_maker.proofs.PartLemmas.{duties_more_map, duties_none, owes_at_map, visited_after}
use Rattle.depth_maker.proofs.join_entries.join_call_entries.Goals as goal

pub loop-t-init : goal.loop-t-init
loop-t-init c = duties_none _ _ _ c.args.v.now.key c.args.v.now.addr c.args.v.now.state.now c.args.table.now c.requires.visited.fine

pub join_entry-requires-clause-visited : goal.join_entry-requires-clause-visited
join_entry-requires-clause-visited c =
    let v = c.args.v.now in
    visited_after _ _ _ v.key v.addr v.state.now c.args.table.now _ _ c.requires.visited c.loop-t.invariant

pub join_entry-requires-clause-owes : goal.join_entry-requires-clause-owes
join_entry-requires-clause-owes c =
    let v = c.args.v.now in
    let t = get_or c.args.targets.now c.loop-t.t-index 0 in
    subst (λ (k : Key). OwesDuty v (enter k (state_after v.state.now c.args.entry.now))) (sym c.entered_key-key.ensures)
    (subst (λ (s : State). OwesDuty v (enter (call_key v.key t) s)) (sym c.requires.entry)
    (owes_at_map _ _ _ v.key v.addr v.state.now (λ (n : ℕ). owed 5 (enter (call_key v.key n) (call_entry v.state.now))) c.args.targets.now c.loop-t.t-index c.loop-t-test.true c.requires.owes))

pub loop-t-preserved : goal.loop-t-preserved
loop-t-preserved c =
    let v = c.args.v.now in
    let t = get_or c.args.targets.now c.loop-t.t-index 0 in
    duties_more_map _ _ _ v.key v.addr v.state.now (lawful _ _ _ v.ground.now.sound) c.args.table.now c.loop-t.table c.join_entry.new.table (λ (n : ℕ). owed 5 (enter (call_key v.key n) (call_entry v.state.now)))
    c.args.targets.now c.loop-t.t-index c.loop-t-test.true c.requires.visited c.requires.owes c.loop-t.invariant
    (subst (λ (k : Key). JoinsDuties v c.loop-t.table c.join_entry.new.table (owed 5 (enter k (call_entry v.state.now)) ∷ [])) c.entered_key-key.ensures
    (subst (λ (s : State). JoinsDuties v c.loop-t.table c.join_entry.new.table (owed 5 (enter c.entered_key-key.result s) ∷ [])) c.requires.entry (c.in_ok-join_entry.ensures.ok 5)))

pub returns-clause-ok : goal.returns-clause-ok
returns-clause-ok c =
    let v = c.args.v.now in
    subst (λ (l : List ℕ). JoinsDuties v c.args.table.now c.loop-t.table (enter_duties v l)) (take_all c.loop-t.t-index c.args.targets.now c.loop-t-test.false) c.loop-t.invariant
