-- What holds of each item that a line of a source can add.
use Rattle.std.specs.Prelude.{◌≡◌, ℕ, true, List, [], ◌∷◌, length, slice_get, Option, Some}
use Rattle.tc_isa.specs.declared.fields.Fields.{Fields}
use Rattle.tc_isa.specs.Rows.{RowData, table_rows}
use Rattle.tc_isa.specs.ValidRowFields.{FieldsFitRow}
use Rattle.tc_isa.specs.Relocations.{is_relocation_kind}
use Rattle.tc_stmt.specs.Names.{is_source_name}
use Rattle.tc_stmt.specs.Items.{ReferenceData, ItemData, label, section, global, code, bytes, zeros}
use Rattle.tc_stmt.specs.StatedRows.{TakesSymbolIfAny}
use Rattle.tc_asm.specs.Statements.{has_unresolved_symbol}

-- bytes of an item that fit its symbol: if the symbol waits for its address, it has a name, and
-- there are four bytes
pub record AddedBytesFitSymbol (bs : List ℕ) (o : Option ReferenceData) : Type 0 where
  pub named : (r : ReferenceData) → o ≡ Some r → is_relocation_kind r.kind ≡ true → is_source_name r.name ≡ true
  pub four : has_unresolved_symbol o ≡ true → length bs ≡ 4

-- an instruction of the listed row with this number; its fields fit the row, and the row takes its
-- symbol
pub record IsCodeOfSomeLine (k : ℕ) (f : Fields) (o : Option ReferenceData) : Type 0 where
  pub row : RowData
  pub at : slice_get table_rows k ≡ Some row
  pub fits : FieldsFitRow row f
  pub symbols : TakesSymbolIfAny row o
  pub zero : (r : ReferenceData) → o ≡ Some r → f.k ≡ 0

-- bytes of data; if they have a symbol, they are a word of zeros
pub record IsDataOfSomeLine (bs : List ℕ) (o : Option ReferenceData) : Type 0 where
  pub good : AddedBytesFitSymbol bs o
  pub kind : (r : ReferenceData) → o ≡ Some r → r.kind ≡ 7
  pub zero : (r : ReferenceData) → o ≡ Some r → bs ≡ 0 ∷ 0 ∷ 0 ∷ 0 ∷ []

-- the symbol of an item, if it has one, has a name that a source may use
abbrev pub SymbolIsNamedIfAny : Option ReferenceData → Type 0
SymbolIsNamedIfAny o = (r : ReferenceData) → o ≡ Some r → is_source_name r.name ≡ true

-- an item that some line of a source adds
abbrev pub IsItemOfSomeLine : ItemData → Type 0
IsItemOfSomeLine (label name) = Unit {0}
IsItemOfSomeLine (section name) = Unit {0}
IsItemOfSomeLine (global name) = Unit {0}
IsItemOfSomeLine (code k f o) = IsCodeOfSomeLine k f o
IsItemOfSomeLine (bytes bs o) = IsDataOfSomeLine bs o
IsItemOfSomeLine (zeros n) = Unit {0}
