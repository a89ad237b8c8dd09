use Rattle.std.proofs.Common.{sym, subst, ℕ, List, [], Option}
use Rattle.std.specs.Prelude.{OnOk, unwrap_or}
use Rattle.value_domain.specs.declared.states.State.{State}
use Rattle.vd_transfer.specs.Changes.{state_after}
use Rattle.depth_cert.specs.declared.keys.Key.{Key}
use Rattle.cfg_recover.specs.Duties.{enter, entry_and_return, resume}
use Rattle.cfg_recover.specs.Entries.{call_entry, call_key}
use Rattle.depth_maker.specs.VisitDuties.{OwesDuties, OwesDuty, JoinsDuties, call_duties}
use Rattle.depth_maker.proofs.PartLemmas.{owes_both}
use Rattle.depth_maker.proofs.calls.join_call_duties.Goals as goal

pub join_entry_and_return-requires-clause-enters : goal.join_entry_and_return-requires-clause-enters
join_entry_and_return-requires-clause-enters c =
    let v = c.args.v.now in
    let one = (rw c.in-Some.is at c.direct_target.ensures.one) v.ground.now.plan.now v.state.now in
    let owes = owes_both _ _ _ v.key v.addr v.state.now 5 c.args.back (call_key v.key c.in-Some.target) (call_entry v.state.now) (subst (λ (o : Option (List ℕ)). OwesDuties v (call_duties v c.args.back (unwrap_or o []))) one c.requires.owes) in
    subst (λ (k : Key). OwesDuty v (enter k (state_after v.state.now c.write_call_entry_change.new.c))) (sym c.entered_key-key.ensures)
    (subst (λ (s : State). OwesDuty v (enter (call_key v.key c.in-Some.target) s)) (sym c.write_call_entry_change.ensures) owes.0)

pub join_entry_and_return-requires-clause-resumes : goal.join_entry_and_return-requires-clause-resumes
join_entry_and_return-requires-clause-resumes c =
    let v = c.args.v.now in
    let one = (rw c.in-Some.is at c.direct_target.ensures.one) v.ground.now.plan.now v.state.now in
    let owes = owes_both _ _ _ v.key v.addr v.state.now 5 c.args.back (call_key v.key c.in-Some.target) (call_entry v.state.now) (subst (λ (o : Option (List ℕ)). OwesDuties v (call_duties v c.args.back (unwrap_or o []))) one c.requires.owes) in
    subst (λ (k : Key). OwesDuty v (resume k c.args.back)) (sym c.entered_key-key.ensures) owes.1

pub returns-in-Some-clause-ok : goal.returns-in-Some-clause-ok
returns-in-Some-clause-ok c =
    let v = c.args.v.now in
    let t = c.join_entry_and_return.new.table in
    let one = (rw c.in-Some.is at c.direct_target.ensures.one) v.ground.now.plan.now v.state.now in
    subst (λ (o : Option (List ℕ)). OnOk c.join_entry_and_return.result (JoinsDuties v c.args.table.now t (call_duties v c.args.back (unwrap_or o [])))) (sym one)
    (subst (λ (k : Key). OnOk c.join_entry_and_return.result (JoinsDuties v c.args.table.now t (entry_and_return 5 k (call_entry v.state.now) c.args.back))) c.entered_key-key.ensures
    (subst (λ (s : State). OnOk c.join_entry_and_return.result (JoinsDuties v c.args.table.now t (entry_and_return 5 c.entered_key-key.result s c.args.back))) c.write_call_entry_change.ensures (c.join_entry_and_return.ensures.ok 5)))
