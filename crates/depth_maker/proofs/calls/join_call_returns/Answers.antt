use Rattle.std.proofs.Common.{sym, subst, ℕ, List, [], ◌∷◌}
use Rattle.std.proofs.lemmas.List.{take_all}
use Rattle.depth_cert.specs.declared.keys.Key.{Key}
use Rattle.cfg_recover.specs.Entries.{call_key}
use Rattle.cfg_recover.specs.Duties.{owed, resume}
use Rattle.depth_maker.specs.VisitDuties.{resume_duties, JoinsDuties, OwesDuty}
use Rattle.depth_maker.proofs.Lawful.{lawful}
use Rattle.depth_maker.proofs.PartLemmas.{duties_more_map, duties_none, owes_at_map, visited_after}
use Rattle.depth_maker.proofs.calls.join_call_returns.Goals as goal

pub loop-t-init : goal.loop-t-init
loop-t-init c = duties_none _ _ _ c.args.v.now.key c.args.v.now.addr c.args.v.now.state.now c.args.table.now c.requires.visited.fine

pub read_exit_and_join_return-requires-clause-visited : goal.read_exit_and_join_return-requires-clause-visited
read_exit_and_join_return-requires-clause-visited c =
    let v = c.args.v.now in
    visited_after _ _ _ v.key v.addr v.state.now c.args.table.now _ _ c.requires.visited c.loop-t.invariant

pub read_exit_and_join_return-requires-clause-owes : goal.read_exit_and_join_return-requires-clause-owes
read_exit_and_join_return-requires-clause-owes c =
    let v = c.args.v.now in
    subst (λ (k : Key). OwesDuty v (resume k c.args.back)) (sym c.entered_key-key.ensures)
    (owes_at_map _ _ _ v.key v.addr v.state.now (λ (n : ℕ). owed 4 (resume (call_key v.key n) c.args.back)) c.args.targets.now c.loop-t.t-index c.loop-t-test.true c.requires.owes)

pub loop-t-preserved : goal.loop-t-preserved
loop-t-preserved c =
    let v = c.args.v.now in
    duties_more_map _ _ _ v.key v.addr v.state.now (lawful _ _ _ v.ground.now.sound) c.args.table.now c.loop-t.table c.read_exit_and_join_return.new.table (λ (n : ℕ). owed 4 (resume (call_key v.key n) c.args.back))
    c.args.targets.now c.loop-t.t-index c.loop-t-test.true c.requires.visited c.requires.owes c.loop-t.invariant
    (subst (λ (k : Key). JoinsDuties v c.loop-t.table c.read_exit_and_join_return.new.table (owed 4 (resume k c.args.back) ∷ [])) c.entered_key-key.ensures c.in_ok-read_exit_and_join_return.ensures.ok)

pub returns-clause-ok : goal.returns-clause-ok
returns-clause-ok c =
    let v = c.args.v.now in
    subst (λ (l : List ℕ). JoinsDuties v c.args.table.now c.loop-t.table (resume_duties v c.args.back l)) (take_all c.loop-t.t-index c.args.targets.now c.loop-t-test.false) c.loop-t.invariant
