use Rattle.std.proofs.Common.{refl, ◌∙◌}
use Rattle.cfg_recover.specs.Duties.{duties_of}
use Rattle.cfg_recover.proofs.FlowDuties.{duties_of_irqs-is}
use Rattle.cfg_recover.proofs.flow_point.flow_of_faultless_point.Goals as goal

pub returns-clause-told : goal.returns-clause-told
unfolding duties_of
returns-clause-told c =
    let interrupts = duties_of_irqs-is c.args.plan.now c.args.key.now c.args.s.now c.state_after_change.result c.possible_irqs.result.items (c.state_after_change.ensures ∙ c.handler_entry_change.ensures.entry) c.possible_irqs.ensures in
    rw (c.successor_jumps.ensures.jumps, c.call_flow_entry.ensures.entry, c.misaligned_flow_entry.ensures.entry, interrupts, c.flow_leave.ensures.told) refl
