use Rattle.std.proofs.Common.{sym, subst, ap, ◌≡◌, refl, ℕ, List, [], ◌∷◌, get_or}
use Rattle.std.proofs.lemmas.List.{take_all}
use Rattle.value_domain.specs.declared.states.State.{State}
use Rattle.vd_transfer.specs.declared.change.Change.{Change}
use Rattle.vd_transfer.specs.Changes.{state_after}
use Rattle.depth_cert.specs.declared.keys.Key.{Key}
use Rattle.cfg_recover.specs.Entries as entries
use Rattle.cfg_recover.specs.Duties.{owed, enter}
use Rattle.cfg_recover.specs.FlowDuties.{duties_of_irqs}
use Rattle.depth_maker.specs.VisitDuties.{OwesDuty, JoinsDuties}
use Rattle.depth_maker.proofs.Lawful.{lawful}
use Rattle.depth_maker.proofs.PartLemmas.{owes_at_map, duties_more_map, duties_none, visited_after}
use Rattle.depth_maker.proofs.join_entries.join_each_handler_entry.Goals as goal

pub loop-p-init : goal.loop-p-init
loop-p-init c = record { paid = duties_none _ _ _ c.args.v.now.key c.args.v.now.addr c.args.v.now.state.now c.args.table.now c.requires.visited.fine; same = refl }

pub join_entry-requires-clause-visited : goal.join_entry-requires-clause-visited
join_entry-requires-clause-visited c =
    let v = c.args.v.now in
    visited_after _ _ _ v.key v.addr v.state.now c.args.table.now _ _ c.requires.visited c.loop-p.invariant.paid

pub join_entry-requires-clause-owes : goal.join_entry-requires-clause-owes
join_entry-requires-clause-owes c =
    let v = c.args.v.now in
    let p = get_or c.args.irqs.now c.loop-p.p-index 0 in
    let plan = v.ground.now.plan.now in
    let from = state_after v.state.now c.args.entry in
    let entry : state_after v.state.now (record c.loop-p.entry { ccpn = p }) ≡ record from { ccpn = p } = ap (λ (e : Change). state_after v.state.now (record e { ccpn = p })) c.loop-p.invariant.same in
    subst (λ (k : Key). OwesDuty v (enter k (state_after v.state.now (record c.loop-p.entry { ccpn = p })))) (sym c.irq_key.ensures)
    (subst (λ (s : State). OwesDuty v (enter (entries.irq_key plan p) s)) (sym entry)
    (owes_at_map _ _ _ v.key v.addr v.state.now (λ (n : ℕ). owed 11 (enter (entries.irq_key plan n) (record from { ccpn = n }))) c.args.irqs.now c.loop-p.p-index c.loop-p-test.true c.requires.owes))

pub loop-p-preserved : goal.loop-p-preserved
loop-p-preserved c =
    let v = c.args.v.now in
    let p = get_or c.args.irqs.now c.loop-p.p-index 0 in
    let plan = v.ground.now.plan.now in
    let from = state_after v.state.now c.args.entry in
    let entry : state_after v.state.now (record c.loop-p.entry { ccpn = p }) ≡ record from { ccpn = p } = ap (λ (e : Change). state_after v.state.now (record e { ccpn = p })) c.loop-p.invariant.same in
    record {
      paid =
          duties_more_map _ _ _ v.key v.addr v.state.now (lawful _ _ _ v.ground.now.sound) c.args.table.now c.loop-p.table c.join_entry.new.table (λ (n : ℕ). owed 11 (enter (entries.irq_key plan n) (record from { ccpn = n })))
          c.args.irqs.now c.loop-p.p-index c.loop-p-test.true c.requires.visited c.requires.owes c.loop-p.invariant.paid
          (subst (λ (k : Key). JoinsDuties v c.loop-p.table c.join_entry.new.table (owed 11 (enter k (record from { ccpn = p })) ∷ [])) c.irq_key.ensures
          (subst (λ (s : State). JoinsDuties v c.loop-p.table c.join_entry.new.table (owed 11 (enter c.irq_key.result s) ∷ [])) entry (c.in_ok-join_entry.ensures.ok 11)));
      same = c.loop-p.invariant.same;
    }

pub returns-clause-ok : goal.returns-clause-ok
returns-clause-ok c =
    let v = c.args.v.now in
    subst (λ (l : List ℕ). JoinsDuties v c.args.table.now c.loop-p.table (duties_of_irqs v.ground.now.plan.now (state_after v.state.now c.args.entry) l)) (take_all c.loop-p.p-index c.args.irqs.now c.loop-p-test.false) c.loop-p.invariant.paid
