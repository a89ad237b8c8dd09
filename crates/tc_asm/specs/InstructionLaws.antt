-- The law of instructions: they spell their rows.
use Rattle.std.specs.Prelude.{◌≡◌, ◌==◌, ◌++◌, ℕ, Bool, false, List, ◌∷◌, length, slice_get, Option, Some, None}
use Rattle.tc_isa.specs.declared.fields.Fields.{Fields}
use Rattle.tc_isa.specs.Rows.{RowData, table_rows}
use Rattle.tc_isa.specs.ValidRowFields.{FieldsFitRow}
use Rattle.tc_isa.specs.Spelling.{spelling}
use Rattle.tc_stmt.specs.Items.{ReferenceData, ItemData, code}
use Rattle.tc_stmt.specs.Lines.{lines_in, items_in}
use Rattle.tc_asm.specs.Drafts.{empty_draft}
use Rattle.tc_asm.specs.DraftedSources.{symbols_of_lines}
use Rattle.tc_asm.specs.Rules.{AllLinesKeepRules}
use Rattle.tc_asm.specs.Statements.{statement_data, statements_from, statements_in}

-- what the law of instructions says of assembled bytes: they spell an instruction of the listed row
-- with this number, with fields that fit it
pub record InstructionSpellsRow (place : ℕ) (bytes : List ℕ) : Type 0 where
  pub row : RowData
  pub is_row : slice_get table_rows place ≡ Some row
  pub fields : Fields
  pub fits : FieldsFitRow row fields
  pub spelled : bytes ≡ spelling row fields

-- the symbol of a jump of 16 bits, which is resolved at once, so that the law of instructions
-- doesn't fix its fields
abbrev pub is_resolved_jump : Option ReferenceData → Bool
is_resolved_jump None = false
is_resolved_jump (Some r) = r.kind == 0

-- An instruction after these items of a source: it spells its row, with the fields of its operands
-- unless its target is resolved at once. It is the statement after those of these items.
pub record IsAssembledInstruction (source : List ℕ) (before : List ItemData) (place : ℕ) (f : Fields) (o : Option ReferenceData) : Type 0 where
  pub bytes : List ℕ
  pub spells : InstructionSpellsRow place bytes
  pub given : is_resolved_jump o ≡ false → spells.fields ≡ f
  pub section : ℕ
  pub stands : slice_get (statements_in source) (length (statements_from (symbols_of_lines (lines_in source)) empty_draft before)) ≡ Some (statement_data section bytes o)

-- each instruction among the items of a source that breaks no rule spells its row
abbrev pub InstructionsSpellRows : Type 0
InstructionsSpellRows = (source : List ℕ) (before after : List ItemData) (place : ℕ) (f : Fields) (o : Option ReferenceData) → AllLinesKeepRules (lines_in source)
    → items_in (lines_in source) ≡ before ++ code place f o ∷ after → IsAssembledInstruction source before place f o
