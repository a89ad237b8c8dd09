-- Rows by their place in the table.
use Rattle.std.proofs.Common.{◌≡◌, ◌<◌, ℕ, List, map, length, get_or, Some, ap, ◌∙◌}
use Rattle.std.specs.Prelude.{slice_get}
use Rattle.std.proofs.lemmas.List.{get_or-map, length-map}
use Rattle.std.proofs.lemmas.Option.{slice_get-get_or}
use Rattle.tc_isa.specs.Rows.{row_of}
use Rattle.tc_isa.specs.declared.table.Row.{Row}
use Rattle.tc_isa.specs.declared.fields.Uses.{Uses}
use Rattle.tc_isa.specs.ValidRowFields.{used_fields}

long_map : (rows : List Row) (i : ℕ) → i < length rows → i < length (map row_of rows)
long_map rows i h = rw (length-map rows row_of) h

pub uses_here : (rows : List Row) (uses : List Uses) (i : ℕ) (d : Row) (u : Uses) → uses ≡ map used_fields (map row_of rows) → i < length rows → get_or uses i u ≡ used_fields (row_of (get_or rows i d))
uses_here rows uses i d u is h =
    ap (λ us. get_or us i u) is
    ∙ get_or-map used_fields (map row_of rows) i (row_of d) u (long_map rows i h)
    ∙ ap used_fields (get_or-map row_of rows i d (row_of d) h)

pub at_here : (rows : List Row) (i : ℕ) (d : Row) → i < length rows → slice_get (map row_of rows) i ≡ Some (row_of (get_or rows i d))
at_here rows i d h = slice_get-get_or (map row_of rows) i (row_of d) (long_map rows i h) ∙ ap (λ r. Some r) (get_or-map row_of rows i d (row_of d) h)
