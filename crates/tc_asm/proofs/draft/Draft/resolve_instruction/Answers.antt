use Rattle.std.proofs.Common.{sym, ap, ◌∙◌, arith}
use Rattle.std.specs.Prelude.{option_map, slice_get}
use Rattle.std.specs.Option.{option_map_or}
use Rattle.tc_isa.specs.Rows.{table_rows}
use Rattle.tc_stmt.specs.Items.{reference_of}
use Rattle.tc_asm.specs.Drafts.{fields_with_target, bare_row_fields}
use Rattle.tc_asm.proofs.CodeLaws.{row_listed, row_unlisted}
use Rattle.tc_asm.proofs.draft.Draft.resolve_instruction.Goals as goal

pub returns-then-place-rows : goal.returns-then-place-rows
returns-then-place-rows c =
    c.resolve_target.ensures
    ∙ ap (λ o. option_map_or (λ row. fields_with_target c.args.labels.now c.args.self.now row c.args.fields.now (option_map reference_of c.args.r.now)) o (bare_row_fields c.args.fields.now))
    (sym (row_listed c.rows-rows.result.now c.from-place.result _ c.rows-rows.ensures.rows (omega arith)))
    ∙ ap (λ n. option_map_or (λ row. fields_with_target c.args.labels.now c.args.self.now row c.args.fields.now (option_map reference_of c.args.r.now)) (slice_get table_rows n) (bare_row_fields c.args.fields.now))
    c.from-place.ensures

pub returns-else-place-rows : goal.returns-else-place-rows
returns-else-place-rows c =
    c.bare_row_fields.ensures
    ∙ ap (λ o. option_map_or (λ row. fields_with_target c.args.labels.now c.args.self.now row c.args.fields.now (option_map reference_of c.args.r.now)) o (bare_row_fields c.args.fields.now))
    (sym (row_unlisted c.rows-rows.result.now c.args.row c.rows-rows.ensures.rows (omega arith)))
