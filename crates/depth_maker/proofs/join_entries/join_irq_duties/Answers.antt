use Rattle.std.proofs.Common.{sym, subst, ◌∙◌, List}
use Rattle.std.proofs.lemmas.Bool.{eqb-true}
use Rattle.cfg_recover.specs.Duties.{Owed}
use Rattle.depth_maker.specs.VisitDuties.{JoinsDuties}
use Rattle.depth_maker.proofs.DutyParts.{interrupts_none, interrupts_off}
use Rattle.depth_maker.proofs.InterruptLaws.{taken_on}
use Rattle.depth_maker.proofs.PartLemmas.{duties_none}
use Rattle.depth_maker.proofs.join_entries.join_irq_duties.Goals as goal

pub returns-then-not-v-clause-ok : goal.returns-then-not-v-clause-ok
returns-then-not-v-clause-ok c =
    let v = c.args.v.now in
    subst (λ (l : List Owed). JoinsDuties v c.args.table.now c.args.table.now l) (interrupts_off v.ground.now.plan.now v.key v.state.now c.if-not-v.true)
    (duties_none _ _ _ v.key v.addr v.state.now c.args.table.now c.requires.visited.fine)

pub returns-then-has_covering_context-clause-ok : goal.returns-then-has_covering_context-clause-ok
returns-then-has_covering_context-clause-ok c = c.has_covering_context.ensures c.if-has_covering_context.true

pub returns-then-is_empty-clause-ok : goal.returns-then-is_empty-clause-ok
returns-then-is_empty-clause-ok c =
    let v = c.args.v.now in
    subst (λ (l : List Owed). JoinsDuties v c.args.table.now c.args.table.now l) (interrupts_none v.ground.now.plan.now v.key v.state.now c.possible_irqs-irqs.result.items c.possible_irqs-irqs.ensures (eqb-true _ _ (sym c.is_empty.ensures ∙ c.if-is_empty.true)))
    (duties_none _ _ _ v.key v.addr v.state.now c.args.table.now c.requires.visited.fine)

pub join_interrupt_entries-requires-clause-irqs : goal.join_interrupt_entries-requires-clause-irqs
join_interrupt_entries-requires-clause-irqs c = c.as_slice.ensures.value ∙ c.possible_irqs-irqs.ensures

pub cache_interrupt_context-requires-clause-on : goal.cache_interrupt_context-requires-clause-on
cache_interrupt_context-requires-clause-on c = taken_on c.args.v.now.state.now.ie _ c.possible_irqs-irqs.result.items c.possible_irqs-irqs.ensures (sym c.is_empty.ensures ∙ c.if-is_empty.false)

pub cache_interrupt_context-requires-clause-fine : goal.cache_interrupt_context-requires-clause-fine
cache_interrupt_context-requires-clause-fine c = c.in_ok-join_interrupt_entries.ensures.ok.fine

pub returns-clause-ok : goal.returns-clause-ok
returns-clause-ok c = c.cache_interrupt_context.ensures c.args.table.now c.in_ok-join_interrupt_entries.ensures.ok
