use Rattle.std.proofs.Common.{sym, ◌∙◌}
use Rattle.tc_script.proofs.AreaLaws.{told_kept, told_interrupt, told_found, from_true}
use Rattle.tc_script.proofs.area_counts.area_effect_of_event.Goals as goal

pub returns-then-preserves_areas : goal.returns-then-preserves_areas
returns-then-preserves_areas c = λ run. told_kept c.args.used c.args.m.now _ c.requires.counted c.if-not-in_row.true (from_true c.preserves_areas.result c.if-preserves_areas.true c.preserves_areas.ensures.kept)

pub returns-then-is_event_interrupt_taken : goal.returns-then-is_event_interrupt_taken
returns-then-is_event_interrupt_taken c = told_interrupt _ c.args.used c.args.m.now c.args.event.now c.requires.running (sym c.is_event_interrupt_taken.ensures ∙ c.if-is_event_interrupt_taken.true) c.area_effect_of_save.ensures

pub returns-in-Ok : goal.returns-in-Ok
returns-in-Ok c = told_found _ c.args.used c.args.m.now c.args.event.now c.in-Ok.shape c.in-Ok.field-0-1 c.requires.running (sym c.is_event_interrupt_taken.ensures ∙ c.if-is_event_interrupt_taken.false) (sym c.in-Ok.is ∙ c.requires.found) (c.area_effect_of_instruction.ensures c.in-Ok.field-0-1)
