use Rattle.std.proofs.Common.{◌≡◌, ap, sym, subst, ◌∙◌, Option, Some}
use Rattle.depth_maker.specs.InterruptHandlers.{IsContextCovered}
use Rattle.depth_maker.specs.TableView.{view_of_table}
use Rattle.depth_maker.specs.VisitDuties.{JoinsDuties, interrupt_duties}
use Rattle.depth_maker.specs.declared.interrupt_contexts.InterruptContext.{InterruptContext}
use Rattle.depth_maker.specs.declared.table.Table as made
use Rattle.depth_maker.proofs.Lawful.{lawful}
use Rattle.depth_maker.proofs.NotedInterrupts.{joined_and_noted, joined_with_last}
use Rattle.depth_maker.proofs.interrupt_contexts.cache_interrupt_context.Goals.{in-Some+else-is_equal_except_sp, in_default}
use Rattle.depth_maker.proofs.interrupt_contexts.cache_interrupt_context.Goals as goal

pub returns-then-is_place_queued : goal.returns-then-is_place_queued
returns-then-is_place_queued c before paid = paid

pub join_sp-requires-clause-own : goal.join_sp-requires-clause-own
join_sp-requires-clause-own c =
    let g = c.args.v.now.ground.now in
    (subst (IsContextCovered g.bounds.now g.plan.now (view_of_table c.args.table.now).cells) c.in-Some.is c.requires.fine.covered.0.0).stack

pub returns-then-is_equal_except_sp : goal.returns-then-is_equal_except_sp
returns-then-is_equal_except_sp c before paid =
    let v = c.args.v.now in
    let t = c.args.table.now in
    subst (λ (h : InterruptContext). JoinsDuties v before (record t { covered = record { interrupts = record { last = Some h; before = (t.covered).interrupts.before }; calls = (t.covered).calls } }) (interrupt_duties v)) (sym c.join_sp.ensures)
    (joined_with_last _ _ _ v.key v.addr v.state.now (lawful _ _ _ v.ground.now.sound) before t c.requires.well_formed c.requires.on c.requires.owes (sym (c.is_place_queued.ensures _ c.requires.near) ∙ c.if-is_place_queued.false) paid c.in-Some.last v.ground.now.sound.limits (c.is_equal_except_sp.ensures c.if-is_equal_except_sp.true) c.in-Some.is)

pub returns : goal.returns
returns c before paid =
    let v = c.args.v.now in
    let t = c.args.table.now in
    let with_last : Option InterruptContext → made.Table = λ o. record t { covered = record { interrupts = record { last = o; before = (t.covered).interrupts.before }; calls = (t.covered).calls } } in
    let same : c.match-table.table ≡ t = elim c.match-table.branch [
      | in-Some+else-is_equal_except_sp w ↦ w.table-is ∙ ap with_last (sym w.in-Some.is)
      | in_default w ↦ w.table-is
    ] in
    let taken = c.take-before.ensures.value ∙ ap (λ (x : made.Table). (x.covered).interrupts.last) same in
    subst (λ (x : made.Table). JoinsDuties v before (record x { covered = record { interrupts = record { last = Some c.of_state-context.result; before = c.take-before.result }; calls = (x.covered).calls } }) (interrupt_duties v)) (sym same)
    (subst (λ (o : Option InterruptContext). JoinsDuties v before (record t { covered = record { interrupts = record { last = Some c.of_state-context.result; before = o }; calls = (t.covered).calls } }) (interrupt_duties v)) (sym taken)
    (joined_and_noted _ _ _ v.key v.addr v.state.now (lawful _ _ _ v.ground.now.sound) before t c.requires.well_formed c.requires.on c.requires.owes (sym (c.is_place_queued.ensures _ c.requires.near) ∙ c.if-is_place_queued.false) paid c.of_state-context.result c.of_state-context.ensures))
