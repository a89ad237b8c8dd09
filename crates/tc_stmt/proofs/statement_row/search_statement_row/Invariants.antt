use Rattle.std.proofs.Common.{◌≡◌, ◌-◌, drop, map, length}
use Rattle.tc_isa.specs.Rows.{row_of}
use Rattle.tc_lex.specs.Operands.{operand_of}
use Rattle.tc_stmt.specs.StatementRow.{statement_outcome, empty_tally}
use Rattle.tc_stmt.proofs.statement_row.search_statement_row.Given as goal

abbrev pub invariant-rows : goal.invariant-rows
invariant-rows l = statement_outcome l.name (map operand_of l.os) (drop l.i (map row_of l.rows)) l.i l.so_far ≡ statement_outcome l.name (map operand_of l.os) (map row_of l.rows) 0 empty_tally

abbrev pub decreases-rows : goal.decreases-rows
decreases-rows l = length l.rows - l.i
