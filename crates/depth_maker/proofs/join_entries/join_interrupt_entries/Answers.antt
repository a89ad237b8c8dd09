use Rattle.std.proofs.Common.{sym, subst, List}
use Rattle.std.specs.Prelude.{OnOk}
use Rattle.cfg_recover.specs.Duties.{Owed}
use Rattle.cfg_recover.proofs.FlowDuties.{duties_of_irqs-is}
use Rattle.depth_maker.specs.VisitDuties.{OwesDuties, JoinsDuties}
use Rattle.depth_maker.proofs.join_entries.join_interrupt_entries.Goals as goal

pub join_each_handler_entry-requires-clause-owes : goal.join_each_handler_entry-requires-clause-owes
join_each_handler_entry-requires-clause-owes c =
    let v = c.args.v.now in
    subst (λ (l : List Owed). OwesDuties v l)
    (sym (duties_of_irqs-is v.ground.now.plan.now v.key v.state.now _ _ c.handler_entry_change-entry.ensures.entry c.requires.irqs)) c.requires.owes

pub returns-clause-ok : goal.returns-clause-ok
returns-clause-ok c =
    let v = c.args.v.now in
    subst (λ (l : List Owed). OnOk c.join_each_handler_entry.result (JoinsDuties v c.args.table.now c.join_each_handler_entry.new.table l))
    (duties_of_irqs-is v.ground.now.plan.now v.key v.state.now _ _ c.handler_entry_change-entry.ensures.entry c.requires.irqs) c.join_each_handler_entry.ensures.ok
