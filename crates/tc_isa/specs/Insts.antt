-- Instructions as plain data.
use Rattle.std.specs.Prelude.{◌≡◌, ℕ, Some, slice_get}
use Rattle.tc_isa.specs.Rows.{RowData, table_rows}
use Rattle.tc_isa.specs.declared.fields.Fields.{Fields}
use Rattle.tc_isa.specs.Forms.{fields}
use Rattle.tc_isa.specs.ValidRowFields.{FieldsFitRow}

-- an instruction: the number of its row in the instruction table, and its fields c, s1, s2, n and k
pub record InstData : Type 0 where
  pub row : ℕ
  pub c : ℕ
  pub s1 : ℕ
  pub s2 : ℕ
  pub n : ℕ
  pub k : ℕ

-- the fields c, s1, s2, n and k of an instruction, without the number of its row
abbrev pub inst_fields : InstData → Fields
inst_fields i = fields i.c i.s1 i.s2 i.n i.k

-- the instruction is valid: the table has a row of its number, and its fields fit the row
pub record IsInst (i : InstData) : Type 0 where
  pub row : RowData
  pub at : slice_get table_rows i.row ≡ Some row
  pub fits : FieldsFitRow row (inst_fields i)
