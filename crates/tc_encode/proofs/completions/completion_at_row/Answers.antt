use Rattle.std.proofs.Common.{◌∙◌, sym, ap, arith}
use Rattle.std.specs.Prelude.{slice_get}
use Rattle.tc_isa.specs.Rows.{table_rows}
use Rattle.tc_isa.proofs.Made.{at_listed}
use Rattle.tc_encode.proofs.Goes.{goes_first}
use Rattle.tc_encode.proofs.completions.completion_at_row.Goals as goal

pub returns-then-row-first-clause-none : goal.returns-then-row-first-clause-none
returns-then-row-first-clause-none c = λ i g same. c.if-row-first.true (goes_first c.args.place c.args.n c.args.part _ i (ap (slice_get table_rows) (sym c.from.ensures) ∙ at_listed c.rows.result.now c.from.result _ c.rows.ensures.rows (omega arith)) c.requires.low g same ∙ sym c.requires.first)

pub completion_in_row-requires-clause-place : goal.completion_in_row-requires-clause-place
completion_in_row-requires-clause-place c = ap (slice_get table_rows) (sym c.from.ensures) ∙ at_listed c.rows.result.now c.from.result _ c.rows.ensures.rows (omega arith)
