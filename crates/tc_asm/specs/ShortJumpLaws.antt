-- Jumps and calls of 16 bits: the distances that they take, and the law that they reach their
-- labels.
use Rattle.std.specs.Prelude.{◌≡◌, ◌+◌, ◌%◌, ◌^◌, ℕ, if◌then◌else◌, List, slice_get, Some}
use Rattle.tc_isa.specs.declared.fields.Fields.{Fields}
use Rattle.tc_isa.specs.Rows.{RowData}
use Rattle.tc_isa.specs.Forms.{is_sbr_form}
use Rattle.tc_isa.specs.FromFields.{doubled_displacement, forward_distance}
use Rattle.tc_stmt.specs.Items.{ReferenceData}
use Rattle.tc_asm.specs.declared.symbols.Place.{Place}
use Rattle.tc_stmt.specs.Lines.{lines_in}
use Rattle.tc_asm.specs.Symbols.{place_in}
use Rattle.tc_asm.specs.DraftedSources.{symbols_in}
use Rattle.tc_asm.specs.Rules.{AllLinesKeepRules}
use Rattle.tc_asm.specs.Objects.{assembled_addend}
use Rattle.tc_asm.specs.Statements.{StatementData, statement_offset, statements_in}
use Rattle.tc_asm.specs.InstructionLaws.{InstructionSpellsRow}

-- the distance of a jump or call of 16 bits, modulo 2^32: SBR (form 13) only goes forwards, SB both
-- ways
abbrev pub short_jump_displacement : RowData → Fields → ℕ
short_jump_displacement row f = if is_sbr_form row.form then forward_distance f else doubled_displacement 8 f

-- A statement with a symbol that takes no relocation spells a row. Wherever the section begins, its
-- displacement reaches the symbol's label plus the number that is added. The label is in the same
-- section.
pub record ReachesLabel (source : List ℕ) (index : ℕ) (t : StatementData) (r : ReferenceData) : Type 0 where
  pub place : ℕ
  pub spells : InstructionSpellsRow place t.bytes
  pub label : Place
  pub is_label : place_in (symbols_in source) r.name ≡ Some label
  pub here : label.section ≡ t.section
  pub reaches : (base : ℕ) → (base + statement_offset (statements_in source) index t.section + short_jump_displacement spells.row spells.fields) % 2 ^ 32 ≡ ((base + label.offset) % 2 ^ 32 + assembled_addend r) % 2 ^ 32

-- each statement of a source that breaks no rule, if its symbol takes no relocation, reaches the
-- symbol's label
abbrev pub ShortJumpsReachLabels : Type 0
ShortJumpsReachLabels = (source : List ℕ) (index : ℕ) (t : StatementData) (r : ReferenceData) → AllLinesKeepRules (lines_in source) → slice_get (statements_in source) index ≡ Some t → t.reference ≡ Some r → r.kind ≡ 0
    → ReachesLabel source index t r
