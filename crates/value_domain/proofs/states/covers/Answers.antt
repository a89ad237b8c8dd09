use Rattle.value_domain.proofs.states.covers.Goals as goal

pub returns : goal.returns
returns c =
    let locals = rw (c.as_slice.ensures.value, c.as_slice-2.ensures.value) at (c.flags_imply.ensures.0 c.if-not-flags_imply.false) in (
      (λ t. record { regs = c.are_regs_below.ensures.0 t; context = c.covers_context.ensures.0 c.if-not-covers_context.false; locals = locals }),
      (λ covers. c.are_regs_below.ensures.1 covers.regs),
    )
