use Rattle.std.proofs.Common.{arith}
use Rattle.tc_stmt.proofs.Skips.{first_right}
use Rattle.tc_stmt.proofs.row_index.first_row_to_try.Goals as goal

pub returns-then-key-first : goal.returns-then-key-first
returns-then-key-first c = λ rows h. first_right rows c.args.first.now c.args.name.now c.name_key-key.result c.from.result (omega arith) c.from.ensures c.name_key-key.ensures h
