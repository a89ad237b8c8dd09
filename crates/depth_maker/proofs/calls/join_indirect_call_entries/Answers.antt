use Rattle.std.proofs.Common.{sym, subst, ℕ, List}
use Rattle.depth_maker.specs.VisitDuties.{enter_duties, JoinsDuties, OwesDuties}
use Rattle.depth_maker.proofs.PartLemmas.{visited_after}
use Rattle.depth_maker.proofs.calls.join_indirect_call_entries.Goals as goal

pub returns-then-has_covering_call-clause-ok : goal.returns-then-has_covering_call-clause-ok
returns-then-has_covering_call-clause-ok c = c.has_covering_call.ensures c.if-has_covering_call.true

pub join_call_entries-requires-clause-owes : goal.join_call_entries-requires-clause-owes
join_call_entries-requires-clause-owes c = subst (λ (l : List ℕ). OwesDuties c.args.v.now (enter_duties c.args.v.now l)) (sym c.as_slice.ensures.value) c.requires.owes

pub cache_covered_call-requires-clause-visited : goal.cache_covered_call-requires-clause-visited
cache_covered_call-requires-clause-visited c =
    let v = c.args.v.now in
    visited_after _ _ _ v.key v.addr v.state.now c.args.table.now _ _ c.requires.visited c.in_ok-join_call_entries.ensures.ok

pub returns-clause-ok : goal.returns-clause-ok
returns-clause-ok c =
    let v = c.args.v.now in
    c.in_ok-cache_covered_call.ensures.ok c.args.table.now (subst (λ (l : List ℕ). JoinsDuties v c.args.table.now c.join_call_entries.new.table (enter_duties v l)) c.as_slice.ensures.value c.in_ok-join_call_entries.ensures.ok)
