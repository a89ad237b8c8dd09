use Rattle.std.proofs.Common.{◌<◌, ◌∙◌, sym, ap, arith, get_or}
use Rattle.std.specs.Prelude.{slice_get}
use Rattle.tc_isa.specs.Rows.{table_rows}
use Rattle.tc_isa.specs.declared.table.TheConstants.{ROW_COUNT}
use Rattle.tc_isa.proofs.Made.{at_listed}
use Rattle.tc_encode.proofs.Finds.{row_between, form_is, bounded}
use Rattle.tc_encode.proofs.index.form_of_first_byte.Goals as goal

pub returns : goal.returns
returns c = λ place r at first.
    let b = row_between c.index_by_first_byte.result.0.now c.index_by_first_byte.result.1.now c.args.first place r c.index_by_first_byte.ensures.all c.index_by_first_byte.ensures.starts c.index_by_first_byte.ensures.ends c.ranges.first.fits at first in
    let most : get_or c.index_by_first_byte.result.0.now c.from.result 0 < ROW_COUNT = bounded c.index_by_first_byte.result.0.now ROW_COUNT c.from.result c.index_by_first_byte.ensures.start_within (omega (arith, c.index_by_first_byte.ensures.starts, c.from.ensures)) in
    form_is place r _ _ _ b (ap (λ f. slice_get table_rows (get_or c.index_by_first_byte.result.0.now f 0)) (sym c.from.ensures) ∙ ap (slice_get table_rows) (sym c.from-2.ensures) ∙ at_listed c.rows.result.now c.from-2.result _ c.rows.ensures.rows (omega (arith, most, c.from.ensures, c.from-2.ensures, c.rows.ensures.count)))
