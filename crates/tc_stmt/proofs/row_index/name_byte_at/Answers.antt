use Rattle.std.proofs.Common.{sym, arith}
use Rattle.std.proofs.lemmas.List.{get_or_past}
use Rattle.tc_stmt.proofs.row_index.name_byte_at.Goals as goal

pub returns-else-i-text-clause-value : goal.returns-else-i-text-clause-value
returns-else-i-text-clause-value c = sym (get_or_past c.args.text.now c.args.i 0 (omega arith))
