use Rattle.small_states.proofs.incoming.is_incoming_state_covered.Goals as goal

pub returns : goal.returns
returns c =
    let locals = rw (c.as_slice.ensures.value, c.as_slice-2.ensures.value) at (c.flags_imply.ensures.0 c.if-not-flags_imply.false) in
    let regs = rw c.as_ref.ensures at c.are_incoming_values_covered.ensures in (
      (λ t. record { regs = regs.0 t; context = c.covers_context.ensures.0 c.if-not-covers_context.false; locals = locals }),
      (λ covers. regs.1 covers.regs),
    )
