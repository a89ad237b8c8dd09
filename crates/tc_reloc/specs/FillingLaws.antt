-- Relocations and the instructions whose constants they fill.
use Rattle.std.specs.Prelude.{◌≡◌, ◌<◌, ℕ, true, slice_get, Some}
use Rattle.tc_isa.specs.declared.fields.Fields.{Fields}
use Rattle.tc_isa.specs.Rows.{RowData, table_rows, is_32_bit_row}
use Rattle.tc_isa.specs.ValidRowFields.{FieldsFitRow}
use Rattle.tc_isa.specs.Spelling.{spelling}
use Rattle.tc_isa.specs.Relocations.{can_relocation_fill}
use Rattle.tc_reloc.specs.Fields.{reloc_field_bound, with_reloc_field}

-- the fields of an instruction with the constant n, the number that a relocation writes
abbrev pub with_filled_constant : Fields → ℕ → Fields
with_filled_constant f n = record f { k = n }

-- if the field of a relocation can hold a number, writing it there changes the constant of the
-- instruction and nothing else
abbrev pub FillingSetsOnlyConstant : Type 0
FillingSetsOnlyConstant = (place : ℕ) (row : RowData) (f : Fields) (kind n : ℕ) → slice_get table_rows place ≡ Some row → FieldsFitRow row f → is_32_bit_row row ≡ true → can_relocation_fill row.form kind ≡ true → n < reloc_field_bound kind
    → with_reloc_field kind (spelling row f) n ≡ spelling row (with_filled_constant f n)

-- if the field of a relocation can hold a number, the instruction with that constant is valid
abbrev pub FilledFieldsFitRow : Type 0
FilledFieldsFitRow = (place : ℕ) (row : RowData) (f : Fields) (kind n : ℕ) → slice_get table_rows place ≡ Some row → FieldsFitRow row f → can_relocation_fill row.form kind ≡ true → n < reloc_field_bound kind → FieldsFitRow row (with_filled_constant f n)
