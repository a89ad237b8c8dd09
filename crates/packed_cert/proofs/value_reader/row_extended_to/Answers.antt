use Rattle.std.proofs.Common.{◌<◌, arith}
use Rattle.packed_cert.proofs.ReadRows.{row_first, row_next}
use Rattle.packed_cert.proofs.value_reader.row_extended_to.Goals as goal

pub returns-then-row-eq0-clause-read : goal.returns-then-row-eq0-clause-read
returns-then-row-eq0-clause-read c = row_first c.args.row c.args.i c.args.place (omega (arith, c.if-row-eq0.true))

pub returns-then-row-eq0-clause-from : goal.returns-then-row-eq0-clause-from
returns-then-row-eq0-clause-from c = λ bytes x before there some. there

pub returns-clause-read : goal.returns-clause-read
returns-clause-read c = row_next c.args.row c.args.i (omega (arith, c.requires.order, c.requires.behind)) c.requires.behind

pub returns-clause-from : goal.returns-clause-from
returns-clause-from c = λ bytes x before there some.
    let was : 0 < c.args.row.behind = omega (arith, c.if-row-eq0.false) in
    before was
