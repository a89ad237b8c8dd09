-- Instructions by the rows of the table in the program.
use Rattle.std.proofs.Common.{◌≡◌, ◌<◌, ℕ, List, map, length, get_or, Some, ap, sym, subst, ◌∙◌}
use Rattle.std.specs.Prelude.{slice_get}
use Rattle.std.proofs.lemmas.List.{length-map}
use Rattle.std.proofs.lemmas.Option.{slice_get_within}
use Rattle.tcd_base.proofs.OptionLaws.{some_same}
use Rattle.tc_isa.specs.Rows.{RowData, row_of, table_rows}
use Rattle.tc_isa.specs.declared.table.Row.{Row}
use Rattle.tc_isa.specs.declared.fields.Uses.{Uses}
use Rattle.tc_isa.specs.ValidRowFields.{FieldsFitRow, used_fields}
use Rattle.tc_isa.specs.Insts.{InstData, IsInst, inst_fields}
use Rattle.tc_isa.proofs.Places.{at_here, uses_here}

pub at_listed : (rows : List Row) (p : ℕ) (d : Row) → map row_of rows ≡ table_rows → p < length rows → slice_get table_rows p ≡ Some (row_of (get_or rows p d))
at_listed rows p d are within = ap (λ rs. slice_get rs p) (sym are) ∙ at_here rows p d within

-- the instruction whose row is at this place of the program's table
pub made : (rows : List Row) (p : ℕ) (d : Row) (i : InstData) → map row_of rows ≡ table_rows → p ≡ i.row → p < length rows → FieldsFitRow (row_of (get_or rows p d)) (inst_fields i) → IsInst i
made rows p d i are same within fits = record { row = row_of (get_or rows p d); at = ap (slice_get table_rows) (sym same) ∙ at_listed rows p d are within; fits = fits }

pub made_fits : (rows : List Row) (p : ℕ) (d : Row) (i : InstData) → map row_of rows ≡ table_rows → p ≡ i.row → p < length rows → IsInst i → FieldsFitRow (row_of (get_or rows p d)) (inst_fields i)
made_fits rows p d i are same within is =
    subst (λ (r : RowData). FieldsFitRow r (inst_fields i)) (some_same is.row (row_of (get_or rows p d)) (sym is.at ∙ ap (slice_get table_rows) (sym same) ∙ at_listed rows p d are within)) is.fits

pub inst_within : (rows : List Row) (i : InstData) → map row_of rows ≡ table_rows → IsInst i → i.row < length rows
inst_within rows i are is =
    let a = slice_get_within table_rows i.row is.row is.at in
    let b : length table_rows ≡ length rows = sym (ap length are) ∙ length-map rows row_of in
    subst (λ n. i.row < n) b a

pub uses_listed : (rows : List Row) (uses : List Uses) (i : ℕ) (d : Row) (u : Uses) → map row_of rows ≡ table_rows → uses ≡ map used_fields table_rows → i < length rows → get_or uses i u ≡ used_fields (row_of (get_or rows i d))
uses_listed rows uses i d u are is within = uses_here rows uses i d u (is ∙ ap (map used_fields) (sym are)) within

-- the row of an instruction is the one at this place of the program's table
pub row_of_inst : (rows : List Row) (p : ℕ) (d : Row) (i : InstData) (is : IsInst i) → map row_of rows ≡ table_rows → p ≡ i.row → is.row ≡ row_of (get_or rows p d)
row_of_inst rows p d i is are same =
    some_same is.row (row_of (get_or rows p d)) (sym is.at ∙ ap (slice_get table_rows) (sym same) ∙ at_listed rows p d are (subst (λ q. q < length rows) (sym same) (inst_within rows i are is)))
