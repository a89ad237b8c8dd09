use Rattle.std.proofs.Common.{◌∙◌, sym, ap, false}
use Rattle.std.specs.Prelude.{slice_get}
use Rattle.tc_isa.specs.declared.fields.Uses.{Uses}
use Rattle.tc_isa.specs.Rows.{row_of, table_rows}
use Rattle.tc_isa.specs.Forms.{field_bounds}
use Rattle.tc_isa.specs.ValidRowFields.{used_fields, are_unused_fields_zero}
use Rattle.tc_encode.proofs.Finds.{plain_zero, plain_at, uses_at}
use Rattle.tc_encode.proofs.word_search.are_missing_fields_zero.Goals as goal

pub returns-then-has_all_fields_by_row-at : goal.returns-then-has_all_fields_by_row-at
returns-then-has_all_fields_by_row-at c =
    let r = row_of c.args.row.now in
    let names = sym (plain_at c.has_all_fields_by_row.result.now c.from-at.result false r c.has_all_fields_by_row.ensures (ap (slice_get table_rows) c.from-at.ensures ∙ c.requires.place)) ∙ c.if-has_all_fields_by_row-at.true in
    c.if-has_all_fields_by_row-at.true ∙ sym (plain_zero (used_fields r) c.args.f.now (field_bounds c.args.row.now.form) names c.requires.below)

pub returns-else-has_all_fields_by_row-at : goal.returns-else-has_all_fields_by_row-at
returns-else-has_all_fields_by_row-at c =
    c.are_unused_fields_zero.ensures ∙ ap (λ (u : Uses). are_unused_fields_zero u c.args.f.now) (uses_at c.used_fields_by_row.result.now c.from-at.result _ (row_of c.args.row.now) c.used_fields_by_row.ensures (ap (slice_get table_rows) c.from-at.ensures ∙ c.requires.place))
