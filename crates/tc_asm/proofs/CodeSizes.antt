-- The size of an instruction doesn't depend on its target; bytes that wait for an address are four.
use Rattle.std.proofs.Common.{◌≡◌, ◌==◌, ℕ, Bool, true, false, cond, List, [], ◌∷◌, length, Option, Some, None, refl, sym, ap, subst, ◌∙◌}
use Rattle.std.specs.Prelude.{slice_get}
use Rattle.std.specs.Option.{option_map_or}
use Rattle.std.proofs.lemmas.Bool.Decides.{Decides-eqb}
use Rattle.tc_isa.specs.declared.fields.Fields.{Fields}
use Rattle.tc_isa.specs.Rows.{RowData, table_rows, is_32_bit_row}
use Rattle.tc_isa.specs.ValidRowFields.{FieldsFitRow, used_fields, are_registers_allowed}
use Rattle.tc_isa.specs.Spelling.{four_or_two_bytes, spelling, row_word}
use Rattle.tc_stmt.specs.RowFields.{RowFieldsData, set_field, with_rule}
use Rattle.tc_stmt.specs.Items.{ReferenceData, ItemData, code, bytes}
use Rattle.tc_stmt.specs.Displacements.{rule_broken_by_displacement, with_displacement}
use Rattle.tc_asm.specs.Symbols.{SymbolData}
use Rattle.tc_asm.specs.Drafts.{DraftData, empty_draft, label_distance, bare_row_fields, fields_with_label_distance, fields_with_target, assembled_row_code, row_fields_with_target, code_bytes, draft_after_item}
use Rattle.tc_asm.specs.DraftInvariants.{EachInDraft}
use Rattle.tc_stmt.specs.Lines.{lines_in, items_in}
use Rattle.tc_asm.specs.DraftedSources.{symbols_of_lines}
use Rattle.tc_stmt.proofs.Cases.{by_test}
use Rattle.tc_asm.specs.Statements.{has_unresolved_symbol}
use Rattle.tc_stmt.specs.StatedRows.{TakesSymbolIfAny}
use Rattle.tc_stmt.proofs.StatedRows.{Sound, sound_displaced}
use Rattle.tc_asm.specs.ItemInvariants.{IsCodeOfSomeLine, IsItemOfSomeLine}
pub use Rattle.tc_encode.proofs.Spelled.{fits_true}
use Rattle.tc_asm.proofs.SourceItems.{source_are}
use Rattle.tc_asm.proofs.Uses.{GoodItem, GoodItems}

-- ---- a target that is resolved at once
fit_sound : (row : RowData) (f : Fields) → FieldsFitRow row f → Sound row (bare_row_fields f)
fit_sound row f h = record { below = h.below; zero = h.zero; symbols = record { some = λ s e. cc } }

displaced_apart : (row : RowData) (minus : Bool) (size : ℕ) (f : RowFieldsData) → are_registers_allowed row (with_displacement row minus size f).fields ≡ are_registers_allowed row f.fields
unfolding with_displacement set_field
displaced_apart row minus size f = by_test (λ (g : RowFieldsData). are_registers_allowed row g.fields ≡ are_registers_allowed row f.fields) (rule_broken_by_displacement row minus size == 15) _ _ (λ b. refl) (λ b. refl)

displaced_fits : (row : RowData) (minus : Bool) (size : ℕ) (f : Fields) → (used_fields row).k ≡ true → FieldsFitRow row f → FieldsFitRow row (with_displacement row minus size (bare_row_fields f)).fields
displaced_fits row minus size f used h =
    let s = sound_displaced row minus size (bare_row_fields f) used (fit_sound row f h) in
    record { below = s.below; zero = s.zero; apart = displaced_apart row minus size (bare_row_fields f) ∙ h.apart }

jumped_fits : (labels : List SymbolData) (d : DraftData) (row : RowData) (f : Fields) (r : ReferenceData) → (used_fields row).k ≡ true → FieldsFitRow row f → FieldsFitRow row (fields_with_label_distance labels d row f r).fields
unfolding fields_with_label_distance
jumped_fits labels d row f r used h = by (label_distance labels d r)
  where
    by : (o : Option (Bool × ℕ)) → FieldsFitRow row (option_map_or (λ n. with_displacement row n.0 n.1 (bare_row_fields f)) o (with_rule 10 (bare_row_fields f))).fields
    by None = h
    by (Some n) = displaced_fits row n.0 n.1 f used h

targeted_fits : (labels : List SymbolData) (d : DraftData) (row : RowData) (f : Fields) (o : Option ReferenceData) → TakesSymbolIfAny row o → FieldsFitRow row f → FieldsFitRow row (fields_with_target labels d row f o).fields
targeted_fits labels d row f None s h = h
targeted_fits labels d row f (Some r) s h =
    by_test (λ (g : RowFieldsData). FieldsFitRow row g.fields) (r.kind == 0) _ _
    (λ b. jumped_fits labels d row f r ((s.some r refl).target ((Decides-eqb r.kind 0).0 b)).0 h) (λ b. h)

pub resolved_fits : (labels : List SymbolData) (d : DraftData) (k : ℕ) (f : Fields) (o : Option ReferenceData) (row : RowData) → slice_get table_rows k ≡ Some row → TakesSymbolIfAny row o → FieldsFitRow row f → FieldsFitRow row (row_fields_with_target labels d k f o).fields
resolved_fits labels d k f o row at s h =
    subst (λ (q : Option RowData). FieldsFitRow row (option_map_or (λ x. fields_with_target labels d x f o) q (bare_row_fields f)).fields) (sym at) (targeted_fits labels d row f o s h)

-- ---- the bytes of an instruction
spelled_length : (row : RowData) (f : Fields) → FieldsFitRow row f → length (assembled_row_code row f) ≡ cond (is_32_bit_row row) 4 2
unfolding assembled_row_code
spelled_length row f h = ap (λ b. length (cond b (spelling row f) [])) (fits_true row f h) ∙ by (is_32_bit_row row) (row_word row f)
  where
    by : (b : Bool) (w : ℕ) → length (four_or_two_bytes b w) ≡ cond b 4 2
    by true w = refl
    by false w = refl

pub code_length : (labels : List SymbolData) (d : DraftData) (k : ℕ) (f : Fields) (o : Option ReferenceData) (c : IsCodeOfSomeLine k f o) → length (code_bytes labels d k f o) ≡ cond (is_32_bit_row c.row) 4 2
unfolding code_bytes
code_length labels d k f o c =
    ap (λ (q : Option RowData). length (option_map_or (λ row. assembled_row_code row (row_fields_with_target labels d k f o).fields) q [])) c.at
    ∙ spelled_length c.row (row_fields_with_target labels d k f o).fields (resolved_fits labels d k f o c.row c.at c.symbols c.fits)

-- ---- valid items
open_long : (row : RowData) (o : Option ReferenceData) → TakesSymbolIfAny row o → has_unresolved_symbol o ≡ true → is_32_bit_row row ≡ true
open_long row None s e = cc
open_long row (Some r) s e = ((s.some r refl).long e).0

item_good : (labels : List SymbolData) (d : DraftData) (i : ItemData) → IsItemOfSomeLine i → GoodItem labels d i
item_good labels d (code k f o) h = record {
  named = λ r e reloc. (h.symbols.some r e).named;
  four = λ e. code_length labels d k f o h ∙ ap (λ b. cond b 4 2) (open_long h.row o h.symbols e);
}
item_good labels d (bytes bs o) h = h.good
item_good labels d _ h = tt

items_good : (labels : List SymbolData) (d : DraftData) (is : List ItemData) → EachInDraft IsItemOfSomeLine is → GoodItems labels d is
items_good labels d [] h = tt
items_good labels d (i ∷ is) h = (item_good labels d i h.0, items_good labels (draft_after_item labels d i) is h.1)

-- a symbol of a source's statement that waits has a name and four bytes
pub source_good : (source : List ℕ) → GoodItems (symbols_of_lines (lines_in source)) empty_draft (items_in (lines_in source))
source_good source = items_good (symbols_of_lines (lines_in source)) empty_draft (items_in (lines_in source)) (source_are source)
