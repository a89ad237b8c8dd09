-- The fields and the symbol of a row, as far as operands fill them, and the least rule broken.
use Rattle.std.specs.Prelude.{ℕ, ◌%◌, min, Option, None}
use Rattle.tc_stmt.specs.SourceRules.{no_rule}
use Rattle.tc_isa.specs.declared.fields.Fields.{Fields}
use Rattle.tc_isa.specs.Forms.{fields}
use Rattle.tc_stmt.specs.declared.want.Field.{Field}
use Rattle.tc_stmt.specs.declared.want.Field.TheVariants.{C, S1, S2, N, K}
use Rattle.tc_stmt.specs.declared.row_fields.RowFields.{RowFields}
use Rattle.tc_stmt.specs.Items.{ReferenceData, reference_if_any}

-- the fields and the symbol so far, and the least rule broken; 15 is none
pub record RowFieldsData : Type 0 where
  pub fields : Fields
  pub rule : ℕ
  pub reference : Option ReferenceData

-- the plain data of a row's fields
abbrev pub row_fields_of : RowFields → RowFieldsData
row_fields_of f = record { fields = f.fields; rule = f.rule; reference = reference_if_any f.reference }

-- a row's fields before the first operand: zeros, no rule broken, no symbol
abbrev pub zero_fields : RowFieldsData
zero_fields = record { fields = fields 0 0 0 0 0; rule = no_rule; reference = None }

-- a row's fields with a further broken rule noted: the least one counts
abbrev pub with_rule : ℕ → RowFieldsData → RowFieldsData
with_rule rule acc = record acc { rule = min acc.rule rule }

-- ---- fields
-- the fields of a row with this value in one of them; all but k are bytes
unfoldable pub set_field : Field → ℕ → Fields → Fields
set_field C v f = record f { c = v % 256 }
set_field S1 v f = record f { s1 = v % 256 }
set_field S2 v f = record f { s2 = v % 256 }
set_field N v f = record f { n = v % 256 }
set_field K v f = record f { k = v }

-- the value in a field of a row that operands fill
unfoldable pub field_of : Field → Fields → ℕ
field_of C f = f.c
field_of S1 f = f.s1
field_of S2 f = f.s2
field_of N f = f.n
field_of K f = f.k

-- the row's fields so far, with this value in one of them
abbrev pub with_field_value : Field → ℕ → RowFieldsData → RowFieldsData
with_field_value field v acc = record acc { fields = set_field field v acc.fields }
