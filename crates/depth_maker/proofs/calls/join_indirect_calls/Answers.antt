use Rattle.std.proofs.Common.{sym, subst, ℕ, List, ◌∙◌}
use Rattle.std.specs.Prelude.{OnOk}
use Rattle.depth_maker.specs.VisitDuties.{resume_duties, OwesDuties, JoinsDuties, call_duties}
use Rattle.depth_maker.proofs.Lawful.{lawful}
use Rattle.depth_maker.proofs.NotedCalls.{on_halves, owes_entered, owes_resumed}
use Rattle.depth_maker.proofs.PartLemmas.{visited_after}
use Rattle.depth_maker.proofs.calls.join_indirect_calls.Goals as goal

pub join_indirect_call_entries-requires-clause-owes : goal.join_indirect_call_entries-requires-clause-owes
join_indirect_call_entries-requires-clause-owes c =
    let v = c.args.v.now in
    owes_entered _ _ _ v.key v.addr v.state.now c.args.back c.targets-targets.result.items (subst (λ (l : List ℕ). OwesDuties v (call_duties v c.args.back l)) (sym c.targets-targets.ensures) c.requires.owes)

pub join_call_returns-requires-clause-visited : goal.join_call_returns-requires-clause-visited
join_call_returns-requires-clause-visited c =
    let v = c.args.v.now in
    visited_after _ _ _ v.key v.addr v.state.now c.args.table.now _ _ c.requires.visited c.in_ok-join_indirect_call_entries.ensures.ok

pub join_call_returns-requires-clause-owes : goal.join_call_returns-requires-clause-owes
join_call_returns-requires-clause-owes c =
    let v = c.args.v.now in
    let listed = c.as_slice.ensures.value ∙ c.targets-targets.ensures in
    owes_resumed _ _ _ v.key v.addr v.state.now c.args.back c.as_slice.result.now (subst (λ (l : List ℕ). OwesDuties v (call_duties v c.args.back l)) (sym listed) c.requires.owes)

pub returns-clause-ok : goal.returns-clause-ok
returns-clause-ok c =
    let v = c.args.v.now in
    let t = c.join_call_returns.new.table in
    let ts = c.targets-targets.result.items in
    subst (λ (l : List ℕ). OnOk c.join_call_returns.result (JoinsDuties v c.args.table.now t (call_duties v c.args.back l))) c.targets-targets.ensures
    (on_halves _ _ _ v.key v.addr v.state.now (lawful _ _ _ v.ground.now.sound) c.args.table.now c.join_indirect_call_entries.new.table t c.args.back ts c.join_call_returns.result c.requires.visited
    (subst (λ (l : List ℕ). OwesDuties v (call_duties v c.args.back l)) (sym c.targets-targets.ensures) c.requires.owes) c.in_ok-join_indirect_call_entries.ensures.ok
    (subst (λ (l : List ℕ). OnOk c.join_call_returns.result (JoinsDuties v c.join_indirect_call_entries.new.table t (resume_duties v c.args.back l))) c.as_slice.ensures.value c.join_call_returns.ensures.ok))
