use Rattle.std.proofs.Common.{sym, subst, refl, [], ◌∷◌}
use Rattle.std.specs.Prelude.{OnOk}
use Rattle.value_domain.specs.declared.states.State.{State}
use Rattle.tc_machine.specs.Instructions.{wrapping_sum}
use Rattle.cfg_recover.specs.Duties.{owed, jump}
use Rattle.depth_maker.specs.VisitDuties.{OwesDuty, JoinsDuties}
use Rattle.depth_maker.proofs.PartLemmas.{owes_one}
use Rattle.depth_maker.proofs.join_successors.join_next_instruction.Goals as goal

pub write_step_change-requires-clause-room : goal.write_step_change-requires-clause-room
write_step_change-requires-clause-room c = let f = c.requires.found in ((f.faultless 8).own c.args.found.now.shape c.args.found.now.size f.code).room refl

pub join_first_successor-requires-clause-owes : goal.join_first_successor-requires-clause-owes
join_first_successor-requires-clause-owes c =
    let v = c.args.v.now in
    let n = wrapping_sum v.addr c.args.found.now.size in
    subst (λ (s : State). OwesDuty v (jump n s)) (sym c.write_step_change.ensures.change) (owes_one _ _ _ v.key v.addr v.state.now (owed 4 (jump n _)) c.requires.owes)

pub returns-clause-ok : goal.returns-clause-ok
returns-clause-ok c =
    let v = c.args.v.now in
    subst (λ (s : State). OnOk c.join_first_successor.result (JoinsDuties v c.args.table.now c.join_first_successor.new.table (owed 4 (jump (wrapping_sum v.addr c.args.found.now.size) s) ∷ []))) c.write_step_change.ensures.change c.join_first_successor.ensures.ok
