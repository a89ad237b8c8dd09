use Rattle.small_states.proofs.incoming.is_incoming_exit_covered.Goals as goal

pub returns : goal.returns
returns c =
    let status = c.covers_context.ensures.0 c.if-not-covers_context.false in
    let lower = rw c.as_ref.ensures at c.are_incoming_values_covered.ensures in (
      (λ t. record { lower = lower.0 t; enabled = status.0; priority = status.1 }),
      (λ covers. lower.1 covers.lower),
    )
