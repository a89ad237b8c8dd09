use Rattle.std.proofs.Common.{sym, arith}
use Rattle.vd_transfer.proofs.ChangeLaws.{length-changed}
use Rattle.depth_cert.proofs.ExitValues.{with_lower_length}
use Rattle.small_states.specs.CompactForms.{all_values}
use Rattle.small_states.proofs.incoming_values.count_incoming_values.Goals as goal

pub returns-in-Changed-clause-long : goal.returns-in-Changed-clause-long
returns-in-Changed-clause-long c = rw c.in-Changed.is (sym (length-changed c.in-Changed.s.now c.in-Changed.field-1.now (omega arith)))

pub returns-in-After-clause-long : goal.returns-in-After-clause-long
returns-in-After-clause-long c = rw c.in-After.is (omega (arith, with_lower_length (all_values c.in-After.field-1.now.lower.value) c.in-After.s.now.regs))
