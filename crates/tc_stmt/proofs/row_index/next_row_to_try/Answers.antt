use Rattle.std.proofs.Common.{arith}
use Rattle.tc_stmt.proofs.Skips.{next_right}
use Rattle.tc_stmt.proofs.row_index.next_row_to_try.Goals as goal

pub returns-then-has_same_name_key-clause-later : goal.returns-then-has_same_name_key-clause-later
returns-then-has_same_name_key-clause-later c =
    (next_right c.args.rows.now c.args.next.now c.args.i c.from.result c.args.name.now _ c.has_same_name_key.result c.requires.place (omega arith) c.requires.next c.has_same_name_key.ensures c.if-has_same_name_key.true c.from.ensures).0

pub returns-then-has_same_name_key-clause-none : goal.returns-then-has_same_name_key-clause-none
returns-then-has_same_name_key-clause-none c =
    (next_right c.args.rows.now c.args.next.now c.args.i c.from.result c.args.name.now _ c.has_same_name_key.result c.requires.place (omega arith) c.requires.next c.has_same_name_key.ensures c.if-has_same_name_key.true c.from.ensures).1
