use Rattle.std.proofs.Common.{arith}
use Rattle.vd_transfer.proofs.ChangeLaws.{length-changed}
use Rattle.depth_cert.proofs.ExitValues.{with_lower_length}
use Rattle.small_states.specs.CompactForms.{all_values}
use Rattle.small_states.proofs.incoming_values.incoming_value.Goals as goal

pub changed_state_value-requires-clause-place : goal.changed_state_value-requires-clause-place
changed_state_value-requires-clause-place c =
    let h = rw c.in-Changed.is at c.requires.place in
    omega (arith, h, length-changed c.in-Changed.s.now c.in-Changed.c.now (omega arith))

pub value_after_return-requires-clause-place : goal.value_after_return-requires-clause-place
value_after_return-requires-clause-place c =
    let h = rw c.in-After.is at c.requires.place in
    omega (arith, h, with_lower_length (all_values c.in-After.exit.now.lower.value) c.in-After.s.now.regs)
