use Rattle.std.proofs.Common.{arith}
use Rattle.vd_transfer.proofs.ChangeLaws.{length-changed}
use Rattle.packed_cert.proofs.covered_values.value_to_cover.Goals as goal

pub changed_value-requires-clause-place : goal.changed_value-requires-clause-place
changed_value-requires-clause-place c =
    let h = rw c.in-Changed.is at c.requires.place in
    omega (arith, h, length-changed c.in-Changed.s.now c.in-Changed.c.now (omega arith))
