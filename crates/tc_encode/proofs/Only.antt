-- A word of a row has one list of fields.
use Rattle.std.proofs.Common.{◌≡◌, ℕ, ap, sym, ◌∙◌}
use Rattle.tc_isa.specs.Rows.{RowData}
use Rattle.tc_isa.specs.declared.fields.Fields.{Fields}
use Rattle.tc_isa.specs.Forms.{fields_of_word}
use Rattle.tc_isa.specs.ValidRowFields.{FieldsFitRow, IsRow}
use Rattle.tc_isa.specs.Spelling.{row_word}
use Rattle.tc_encode.proofs.Inverse.{fields-word}

-- a row's word has one list of fields
pub only : (r : RowData) (f : Fields) (w : ℕ) → IsRow r → FieldsFitRow r f → row_word r f ≡ w → fields_of_word r.form w ≡ f
only r f w row fits is = ap (fields_of_word r.form) (sym is) ∙ fields-word r.form r.op1 r.op2 f row.first row.second fits.below
