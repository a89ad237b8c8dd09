use Rattle.std.proofs.Common.{cond, sym, ap, ◌∙◌, arith}
use Rattle.std.specs.Prelude.{slice_get}
use Rattle.std.specs.Option.{option_map_or}
use Rattle.tc_isa.specs.Rows.{RowData, table_rows, is_32_bit_row}
use Rattle.tc_asm.proofs.CodeLaws.{row_listed, row_unlisted}
use Rattle.tc_asm.proofs.AlikeDrafts.{sized}
use Rattle.tc_asm.proofs.encode.assembled_code_size.Goals as goal

pub returns-then-place-rows : goal.returns-then-place-rows
returns-then-place-rows c =
    c.assembled_row_size.ensures
    ∙ ap (λ o. option_map_or (λ (row : RowData). cond (is_32_bit_row row) 4 2) o 0) (sym (row_listed c.rows-rows.result.now c.from-place.result _ c.rows-rows.ensures.rows (omega arith)))
    ∙ ap (λ n. option_map_or (λ (row : RowData). cond (is_32_bit_row row) 4 2) (slice_get table_rows n) 0) c.from-place.ensures
    ∙ sized c.args.row

pub returns-else-place-rows : goal.returns-else-place-rows
returns-else-place-rows c =
    ap (λ o. option_map_or (λ (row : RowData). cond (is_32_bit_row row) 4 2) o 0) (sym (row_unlisted c.rows-rows.result.now c.args.row c.rows-rows.ensures.rows (omega arith)))
    ∙ sized c.args.row
