use Rattle.std.proofs.Common.{◌≡◌, drop, map}
use Rattle.tc_isa.specs.Rows.{row_of}
use Rattle.tc_lex.specs.Operands.{operand_of}
use Rattle.tc_stmt.specs.RowFields.{row_fields_of}
use Rattle.tc_stmt.specs.Filling.{fill_operands}
use Rattle.tc_stmt.proofs.fill_fields.fill_operands.Given as goal

abbrev pub invariant-loop-i : goal.invariant-loop-i
invariant-loop-i l =
    fill_operands (row_of l.row) (drop l.i l.wants) (drop l.i (map operand_of l.os)) (row_fields_of l.acc)
    ≡ fill_operands (row_of l.row) l.wants (map operand_of l.os) (row_fields_of l.initial.acc)
