use Rattle.std.proofs.Common.{map, ap, sym, ◌∙◌, Err, arith}
use Rattle.tc_isa.specs.Rows.{row_of}
use Rattle.tc_lex.specs.Operands.{operand_of}
use Rattle.tc_stmt.specs.StatementRow.{empty_tally}
use Rattle.tc_stmt.proofs.Outcomes.{outcome-ok, outcome-err, outcome-end}
use Rattle.tc_stmt.proofs.Places.{wants_here, long_wants}
use Rattle.tc_stmt.proofs.Skips.{skip_first, skip_next}
use Rattle.tc_stmt.proofs.statement_row.search_statement_row.Goals as goal

pub rows-init : goal.rows-init
rows-init c = sym (skip_first c.args.name.now (map operand_of c.args.os.now) (map row_of c.args.rows.now) c.first_row_to_try-i.result empty_tally (c.first_row_to_try-i.ensures (map row_of c.args.rows.now) c.requires.first))

pub try_statement_row-requires : goal.try_statement_row-requires
try_statement_row-requires c = wants_here c.args.rows.now c.args.wants.now c.rows.i _ _ c.requires.wants (omega arith) (omega (arith, long_wants c.args.rows.now c.args.wants.now c.requires.wants))

pub returns-in-Ok : goal.returns-in-Ok
returns-in-Ok c = sym c.rows.invariant ∙ outcome-ok c.args.name.now (map operand_of c.args.os.now) c.args.rows.now c.rows.i c.rows.so_far _ c.try_statement_row.result _ _ c.in-Ok.is c.try_statement_row.ensures (omega arith)

pub rows-preserved : goal.rows-preserved
rows-preserved c =
    sym (skip_next c.args.name.now (map operand_of c.args.os.now) (map row_of c.args.rows.now) c.rows.i c.next_row_to_try-i.result c.in-Err.after c.next_row_to_try-i.ensures.later c.next_row_to_try-i.ensures.none)
    ∙ sym (outcome-err c.args.name.now (map operand_of c.args.os.now) c.args.rows.now c.rows.i c.rows.so_far _ c.try_statement_row.result c.in-Err.after _ c.in-Err.is c.try_statement_row.ensures (omega arith))
    ∙ c.rows.invariant

pub returns : goal.returns
returns c = sym c.rows.invariant ∙ outcome-end c.args.name.now (map operand_of c.args.os.now) c.args.rows.now c.rows.i c.rows.so_far (omega arith) ∙ ap (λ e. Err e) (sym c.rule_broken_by_statement.ensures)
