use Rattle.std.proofs.Common.{sym, subst}
use Rattle.std.specs.Prelude.{OnOk}
use Rattle.value_domain.specs.declared.states.State.{State}
use Rattle.vd_transfer.specs.Changes.{state_after}
use Rattle.depth_cert.specs.declared.keys.Key.{Key}
use Rattle.cfg_recover.specs.Entries as entries
use Rattle.cfg_recover.specs.Duties.{enter, resume, entry_and_return}
use Rattle.depth_maker.specs.VisitDuties.{OwesDuty, JoinsDuties}
use Rattle.depth_maker.proofs.PartLemmas.{owes_both}
use Rattle.depth_maker.proofs.join_entries.join_system_call_duties.Goals as goal

pub join_entry_and_return-requires-clause-enters : goal.join_entry_and_return-requires-clause-enters
join_entry_and_return-requires-clause-enters c =
    let v = c.args.v.now in
    let g = v.ground.now in
    let owes = owes_both _ _ _ v.key v.addr v.state.now 12 c.args.back (entries.sys_key g.plan.now v.key) (entries.sys_entry g.plan.now v.key v.state.now c.args.tin) c.requires.owes in
    subst (λ (k : Key). OwesDuty v (enter k (state_after v.state.now c.sys_entry_change-entry.result))) (sym c.sys_key.ensures)
    (subst (λ (s : State). OwesDuty v (enter (entries.sys_key g.plan.now v.key) s)) (sym c.sys_entry_change-entry.ensures.entry) owes.0)

pub join_entry_and_return-requires-clause-resumes : goal.join_entry_and_return-requires-clause-resumes
join_entry_and_return-requires-clause-resumes c =
    let v = c.args.v.now in
    let g = v.ground.now in
    let owes = owes_both _ _ _ v.key v.addr v.state.now 12 c.args.back (entries.sys_key g.plan.now v.key) (entries.sys_entry g.plan.now v.key v.state.now c.args.tin) c.requires.owes in
    subst (λ (k : Key). OwesDuty v (resume k c.args.back)) (sym c.sys_key.ensures) owes.1

pub returns-clause-ok : goal.returns-clause-ok
returns-clause-ok c =
    let v = c.args.v.now in
    let g = v.ground.now in
    subst (λ (k : Key). OnOk c.join_entry_and_return.result (JoinsDuties v c.args.table.now c.join_entry_and_return.new.table (entry_and_return 12 k (entries.sys_entry g.plan.now v.key v.state.now c.args.tin) c.args.back))) c.sys_key.ensures
    (subst (λ (s : State). OnOk c.join_entry_and_return.result (JoinsDuties v c.args.table.now c.join_entry_and_return.new.table (entry_and_return 12 c.sys_key.result s c.args.back))) c.sys_entry_change-entry.ensures.entry (c.join_entry_and_return.ensures.ok 12))
