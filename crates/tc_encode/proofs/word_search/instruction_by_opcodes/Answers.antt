use Rattle.std.proofs.Common.{◌∙◌, sym, ap, arith}
use Rattle.std.specs.Prelude.{slice_get}
use Rattle.tc_isa.specs.Rows.{table_rows}
use Rattle.tc_isa.proofs.Made.{at_listed}
use Rattle.tc_encode.proofs.Finds.{stands}
use Rattle.tc_encode.proofs.word_search.instruction_by_opcodes.Goals as goal

pub returns-then-row-first-clause-none : goal.returns-then-row-first-clause-none
returns-then-row-first-clause-none c = λ i m same. c.if-row-first.true ((stands c.args.place c.args.w _ (ap (slice_get table_rows) (sym c.from-at.ensures) ∙ at_listed c.rows.result.now c.from-at.result _ c.rows.ensures.rows (omega arith)) i m same).first ∙ sym c.requires.first)

pub returns-then-row-second-clause-none : goal.returns-then-row-second-clause-none
returns-then-row-second-clause-none c = λ i m same.
    let at = ap (slice_get table_rows) (sym c.from-at.ensures) ∙ at_listed c.rows.result.now c.from-at.result _ c.rows.ensures.rows (omega arith) in
    let s = stands c.args.place c.args.w _ at i m same in
    c.if-row-second.true (s.second ∙ sym (c.requires.second _ at c.if-row-first.false))

pub instruction_in_row-requires-clause-place : goal.instruction_in_row-requires-clause-place
instruction_in_row-requires-clause-place c = ap (slice_get table_rows) (sym c.from-at.ensures) ∙ at_listed c.rows.result.now c.from-at.result _ c.rows.ensures.rows (omega arith)

pub instruction_in_row-requires-clause-second : goal.instruction_in_row-requires-clause-second
instruction_in_row-requires-clause-second c = c.if-row-second.false ∙ c.requires.second _ (ap (slice_get table_rows) (sym c.from-at.ensures) ∙ at_listed c.rows.result.now c.from-at.result _ c.rows.ensures.rows (omega arith)) c.if-row-first.false
