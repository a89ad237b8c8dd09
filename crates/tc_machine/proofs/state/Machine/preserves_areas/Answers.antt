use Rattle.std.proofs.Common.{◌≡◌, ◌∙◌, false, sym}
use Rattle.tc_machine.specs.Stepping.{is_interrupt_taken}
use Rattle.tc_machine.proofs.Kept.{none_when_off, none_when_low, kept_where}
use Rattle.tc_machine.proofs.state.Machine.preserves_areas.Goals.{else-self-via-then-self+else-self-event, else-self-via-else-self}
use Rattle.tc_machine.proofs.state.Machine.preserves_areas.Goals as goal

pub returns-in-Ok-clause-kept : goal.returns-in-Ok-clause-kept
returns-in-Ok-clause-kept c =
    let free : is_interrupt_taken c.args.self.now c.args.event.now ≡ false =
    elim c.else-self.branch [
      | else-self-via-then-self+else-self-event w ↦ none_when_low c.args.self.now c.args.event.now w.if-self-event.false
      | else-self-via-else-self w ↦ none_when_off c.args.self.now c.args.event.now w.if-self.false
    ] in
    kept_where c.args.self.now c.args.event.now c.in-Ok.shape c.in-Ok.field-0-1 c.is_area_preserving_shape.result free (sym c.in-Ok.is ∙ c.requires) c.is_area_preserving_shape.ensures
