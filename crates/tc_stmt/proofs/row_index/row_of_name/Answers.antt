use Rattle.std.proofs.Common.{◌≡◌, ◌∙◌, ap, Option, None, Some, refl}
use Rattle.std.specs.Prelude.{option_map, find}
use Rattle.std.specs.Borrow.{Bor}
use Rattle.std.specs.Str.{bytes_eq}
use Rattle.tc_isa.specs.declared.table.Row.{Row}
use Rattle.tc_isa.specs.Rows.{RowData, row_of}
use Rattle.tc_lex.proofs.Mapped.{find-map}
use Rattle.tc_stmt.proofs.row_index.row_of_name.Goals as goal

both : (o : Option (Bor Row)) → option_map (λ (r : Bor Row). row_of r.now) o ≡ option_map row_of (option_map (λ (r : Bor Row). r.now) o)
both None = refl
both (Some r) = refl

pub returns : goal.returns
returns c =
    both c.find_row_by_name.result
    ∙ ap (option_map row_of) c.find_row_by_name.ensures
    ∙ find-map (λ (r : RowData). bytes_eq r.name c.args.name.now) row_of c.rows.result.now
    ∙ ap (find (λ (r : RowData). bytes_eq r.name c.args.name.now)) c.rows.ensures.rows
