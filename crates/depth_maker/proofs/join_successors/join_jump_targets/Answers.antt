use Rattle.std.proofs.Common.{List, [], ◌∷◌, ℕ, Option, sym, subst}
use Rattle.std.specs.Prelude.{OnOk, unwrap_or}
use Rattle.value_domain.specs.declared.states.State.{State}
use Rattle.cfg_recover.specs.Duties.{owed, jump, jump_duties_to}
use Rattle.depth_maker.specs.VisitDuties.{OwesDuties, OwesDuty, JoinsDuties}
use Rattle.depth_maker.proofs.PartLemmas.{owes_one}
use Rattle.depth_maker.proofs.join_successors.join_jump_targets.Goals as goal

pub join_first_successor-requires-clause-owes : goal.join_first_successor-requires-clause-owes
join_first_successor-requires-clause-owes c =
    let v = c.args.v.now in
    let to = c.in-Some.target in
    let one = (rw c.in-Some.is at c.direct_target.ensures.one) v.ground.now.plan.now v.state.now in
    subst (λ (s : State). OwesDuty v (jump to s)) (sym c.set_to_identity.ensures.same)
    (owes_one _ _ _ v.key v.addr v.state.now (owed 4 (jump to v.state.now)) (subst (λ (o : Option (List ℕ)). OwesDuties v (jump_duties_to v.state.now (unwrap_or o []))) one c.requires.owes))

pub returns-in-Some-clause-ok : goal.returns-in-Some-clause-ok
returns-in-Some-clause-ok c =
    let v = c.args.v.now in
    let to = c.in-Some.target in
    let one = (rw c.in-Some.is at c.direct_target.ensures.one) v.ground.now.plan.now v.state.now in
    subst (λ (o : Option (List ℕ)). OnOk c.join_first_successor.result (JoinsDuties v c.args.table.now c.join_first_successor.new.table (jump_duties_to v.state.now (unwrap_or o [])))) (sym one)
    (subst (λ (s : State). OnOk c.join_first_successor.result (JoinsDuties v c.args.table.now c.join_first_successor.new.table (owed 4 (jump to s) ∷ []))) c.set_to_identity.ensures.same c.join_first_successor.ensures.ok)
