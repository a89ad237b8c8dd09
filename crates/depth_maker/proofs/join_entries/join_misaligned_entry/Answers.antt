use Rattle.std.proofs.Common.{sym, subst, [], ◌∷◌}
use Rattle.std.specs.Prelude.{OnOk}
use Rattle.value_domain.specs.declared.states.State.{State}
use Rattle.vd_transfer.specs.Changes.{state_after}
use Rattle.depth_cert.specs.declared.keys.Key.{Key}
use Rattle.cfg_recover.specs.Entries as entries
use Rattle.cfg_recover.specs.Duties.{owed, enter}
use Rattle.depth_maker.specs.VisitDuties.{OwesDuty, JoinsDuties, misaligned_duty}
use Rattle.depth_maker.proofs.PartLemmas.{owes_one}
use Rattle.depth_maker.proofs.join_entries.join_misaligned_entry.Goals as goal

pub join_entry-requires-clause-owes : goal.join_entry-requires-clause-owes
join_entry-requires-clause-owes c =
    let v = c.args.v.now in
    let g = v.ground.now in
    let one = owes_one _ _ _ v.key v.addr v.state.now (misaligned_duty v) c.requires.owes in
    subst (λ (k : Key). OwesDuty v (enter k (state_after v.state.now c.aln_entry_change-entry.result))) (sym c.aln_key.ensures)
    (subst (λ (s : State). OwesDuty v (enter (entries.aln_key g.plan.now v.key) s)) (sym c.aln_entry_change-entry.ensures.entry) one)

pub returns-clause-ok : goal.returns-clause-ok
returns-clause-ok c =
    let v = c.args.v.now in
    let g = v.ground.now in
    subst (λ (k : Key). OnOk c.join_entry.result (JoinsDuties v c.args.table.now c.join_entry.new.table (owed 10 (enter k (entries.aln_entry g.plan.now v.key v.state.now)) ∷ []))) c.aln_key.ensures
    (subst (λ (s : State). OnOk c.join_entry.result (JoinsDuties v c.args.table.now c.join_entry.new.table (owed 10 (enter c.aln_key.result s) ∷ []))) c.aln_entry_change-entry.ensures.entry (c.join_entry.ensures.ok 10))
