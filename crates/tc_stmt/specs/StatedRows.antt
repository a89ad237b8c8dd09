-- A statement that breaks no rule: its fields fit its row, and the row takes its symbol.
use Rattle.std.specs.Prelude.{◌≡◌, ◌||◌, ℕ, Bool, true, List, slice_get, Option, Some, Ok}
use Rattle.tc_isa.specs.Rows.{RowData, table_rows, is_32_bit_row}
use Rattle.tc_isa.specs.declared.table.Form.{Form}
use Rattle.tc_isa.specs.Forms.{is_sb_form, is_sbr_form}
use Rattle.tc_isa.specs.ValidRowFields.{FieldsFitRow, used_fields}
use Rattle.tc_isa.specs.Relocations.{is_relocation_kind, can_relocation_fill}
use Rattle.tc_stmt.specs.Names.{is_source_name}
use Rattle.tc_lex.specs.Operands.{OperandData}
use Rattle.tc_stmt.specs.RowFields.{RowFieldsData}
use Rattle.tc_stmt.specs.Items.{ReferenceData}
use Rattle.tc_stmt.specs.StatementRow.{row_of_statement}

-- a statement that breaks no rule may have a symbol without a relocation in a row of this form:
-- jumps and calls of 16 bits, SB and SBR
abbrev pub can_take_symbol_directly : Form → Bool
can_take_symbol_directly form = is_sb_form form || is_sbr_form form

-- the symbol has a name, and the row has a field for it: in 32 bits the symbol's relocation fills
-- the constant; a jump of 16 bits has no relocation, and its form has a constant
pub record TakesSymbol (r : RowData) (s : ReferenceData) : Type 0 where
  pub named : is_source_name s.name ≡ true
  pub long : is_relocation_kind s.kind ≡ true → (is_32_bit_row r ≡ true) × (can_relocation_fill r.form s.kind ≡ true)
  pub target : s.kind ≡ 0 → ((used_fields r).k ≡ true) × (can_take_symbol_directly r.form ≡ true)

-- if a statement that breaks no rule has a symbol, its row has a field for it
pub record TakesSymbolIfAny (r : RowData) (o : Option ReferenceData) : Type 0 where
  pub some : (s : ReferenceData) → o ≡ Some s → TakesSymbol r s

-- the fields fit the row, and the row takes the symbol
pub record FieldsAndSymbolFitRow (r : RowData) (f : RowFieldsData) : Type 0 where
  pub fits : FieldsFitRow r f.fields
  pub symbols : TakesSymbolIfAny r f.reference

-- the row of this number is listed, the fields fit it, and it takes the symbol; with a symbol, the
-- constant is 0
pub record IsRowOfStatement (k : ℕ) (f : RowFieldsData) : Type 0 where
  pub row : RowData
  pub at : slice_get table_rows k ≡ Some row
  pub stated : FieldsAndSymbolFitRow row f
  pub zero : (s : ReferenceData) → f.reference ≡ Some s → f.fields.k ≡ 0

-- a statement that breaks no rule fits its row
abbrev pub StatementsFitRows : Type 0
StatementsFitRows = (name : List ℕ) (os : List OperandData) (k : ℕ) (f : RowFieldsData) → row_of_statement name os ≡ Ok (k, f) → IsRowOfStatement k f
