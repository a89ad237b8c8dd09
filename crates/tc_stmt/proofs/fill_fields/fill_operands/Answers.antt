use Rattle.std.proofs.Common.{map, sym, ◌∙◌, arith}
use Rattle.std.proofs.lemmas.List.{length-map}
use Rattle.tc_isa.specs.Rows.{row_of}
use Rattle.tc_lex.specs.Operands.{operand_of}
use Rattle.tc_stmt.specs.RowFields.{row_fields_of}
use Rattle.tc_stmt.proofs.Filled.{fill_all-uneven, fill_more, fill_none, fill_last}
use Rattle.tc_stmt.proofs.fill_fields.fill_operands.Goals as goal

pub returns-then-wants-os : goal.returns-then-wants-os
returns-then-wants-os c = sym (fill_all-uneven (row_of c.args.row.now) c.args.wants.now (map operand_of c.args.os.now) (row_fields_of c.args.acc.now) (λ e. c.if-wants-os.true (e ∙ length-map c.args.os.now operand_of)))

pub loop-i-preserved : goal.loop-i-preserved
loop-i-preserved c = fill_more (row_of c.args.row.now) c.args.wants.now c.args.os.now c.loop-i.i _ _ c.loop-i.invariant _ _ _ _ c.fill_operand.ensures c.if-not-fill_operand.false (omega arith) (omega arith)

pub returns-then-not-fill_operand : goal.returns-then-not-fill_operand
returns-then-not-fill_operand c = fill_none (row_of c.args.row.now) c.args.wants.now c.args.os.now c.loop-i.i _ _ c.loop-i.invariant _ _ _ _ c.fill_operand.ensures c.if-not-fill_operand.true (omega arith) (omega arith)

pub returns : goal.returns
returns c = fill_last (row_of c.args.row.now) c.args.wants.now c.args.os.now c.loop-i.i _ _ c.loop-i.invariant (omega arith) (omega arith)
