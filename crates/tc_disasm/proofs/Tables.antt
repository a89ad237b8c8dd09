-- By computation over the table.
use Rattle.std.proofs.Common.{◌≡◌, true, map, refl}
use Rattle.tc_isa.specs.Rows.{table_rows}
use Rattle.tc_isa.specs.ValidRowFields.{used_fields}
use Rattle.tc_stmt.specs.Wants.{wants_of, want_of}
use Rattle.tc_disasm.specs.RowsApart.{row_name_and_wants, are_all_rows_distinguishable, is_want_refused_by, are_wants_refused_by}
use Rattle.tc_disasm.specs.GivenFields.{fields_set_by_wants, is_field_set_by_want}

pub rows_apart : are_all_rows_distinguishable (map row_name_and_wants table_rows) ≡ true
unfolding wants_of want_of is_want_refused_by are_wants_refused_by
rows_apart = refl

pub uses_are : map used_fields table_rows ≡ map (λ r. fields_set_by_wants (wants_of r)) table_rows
unfolding wants_of want_of fields_set_by_wants is_field_set_by_want
uses_are = refl
