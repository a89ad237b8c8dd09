-- The fields of symbols that wait for addresses are zero.
use Rattle.std.proofs.Common.{◌≡◌, ◌<◌, ◌==◌, ◌||◌, ℕ, Bool, true, false, cond, List, [], ◌∷◌, Option, Some, None, refl, sym, ap, subst, ◌∙◌, arith}
use Rattle.std.specs.Prelude.{slice_get, fold}
use Rattle.std.specs.Option.{option_map_or}
use Rattle.std.proofs.lemmas.Bool.Decides.{nat_tests}
use Rattle.tc_isa.specs.declared.fields.Fields.{Fields}
use Rattle.tc_isa.specs.Rows.{RowData, table_rows}
use Rattle.tc_isa.specs.Spelling.{spelling}
use Rattle.tc_isa.specs.Relocations.{is_relocation_kind}
use Rattle.tc_reloc.specs.Fields.{reloc_field_bound, bits_outside_reloc_field, reloc_field_bits, with_reloc_field}
use Rattle.tc_reloc.proofs.FilledRows.{written_law}
use Rattle.tc_stmt.specs.Items.{ReferenceData, ItemData, section, code, bytes}
use Rattle.tc_stmt.proofs.Cases.{by_test}
use Rattle.tc_stmt.specs.Lines.{lines_in, items_in}
use Rattle.tc_asm.specs.Symbols.{SymbolData}
use Rattle.tc_asm.specs.Drafts.{DraftData, empty_draft, bare_row_fields, fields_with_target, fields_with_label_distance, assembled_row_code, row_fields_with_target, code_bytes, draft_after_item}
use Rattle.tc_asm.specs.DraftedSources.{symbols_of_lines}
use Rattle.tc_asm.specs.DraftInvariants.{EachInDraft}
use Rattle.tc_asm.specs.Statements.{StatementData, statement_data, statement_of_item}
use Rattle.tc_asm.specs.SourceRelocations.{RelocatedFieldsAreZero}
use Rattle.tc_asm.specs.InstructionLaws.{is_resolved_jump}
use Rattle.tc_asm.specs.ItemInvariants.{IsCodeOfSomeLine, IsItemOfSomeLine}
use Rattle.tc_asm.proofs.SourceItems.{source_are}
use Rattle.tc_asm.proofs.CodeSizes.{fits_true, resolved_fits}
use Rattle.tc_asm.proofs.StatementItems.{item_at, each_there}

-- the bytes of an instruction spell its row
pub code_spelled : (labels : List SymbolData) (d : DraftData) (k : ℕ) (f : Fields) (o : Option ReferenceData) (c : IsCodeOfSomeLine k f o) → code_bytes labels d k f o ≡ spelling c.row (row_fields_with_target labels d k f o).fields
unfolding code_bytes assembled_row_code
code_spelled labels d k f o c =
    ap (λ (q : Option RowData). option_map_or (λ row. assembled_row_code row (row_fields_with_target labels d k f o).fields) q []) c.at
    ∙ ap (λ b. cond b (spelling c.row (row_fields_with_target labels d k f o).fields) []) (fits_true c.row (row_fields_with_target labels d k f o).fields (resolved_fits labels d k f o c.row c.at c.symbols c.fits))

-- only a target that is resolved at once changes a field
pub given_fields : (labels : List SymbolData) (d : DraftData) (k : ℕ) (f : Fields) (o : Option ReferenceData) (row : RowData) → slice_get table_rows k ≡ Some row → is_resolved_jump o ≡ false → (row_fields_with_target labels d k f o).fields ≡ f
given_fields labels d k f None row at e = ap (λ (q : Option RowData). (option_map_or (λ x. fields_with_target labels d x f None) q (bare_row_fields f)).fields) at
given_fields labels d k f (Some r) row at e =
    ap (λ (q : Option RowData). (option_map_or (λ x. fields_with_target labels d x f (Some r)) q (bare_row_fields f)).fields) at
    ∙ by (r.kind == 0) e
  where
    by : (b : Bool) → b ≡ false → (cond b (fields_with_label_distance labels d row f r) (bare_row_fields f)).fields ≡ f
    by true e = cc
    by false e = refl

waiting_kind : (n : ℕ) → is_relocation_kind n ≡ true → (n == 0) ≡ false
waiting_kind n e = grind (arith, nat_tests)

some_room : (kind : ℕ) → 0 < reloc_field_bound kind
unfolding reloc_field_bound
some_room kind =
    let P : ℕ → Type 0 = λ n. 0 < n in
    by_test P (kind == 1 || kind == 2) _ _ (λ e. omega arith)
    (λ e. by_test P (kind == 3) _ _ (λ e. omega arith)
    (λ e. by_test P (kind == 7) _ _ (λ e. omega arith) (λ e. omega arith)))

code_zero : (labels : List SymbolData) (d : DraftData) (k : ℕ) (f : Fields) (r : ReferenceData) → IsCodeOfSomeLine k f (Some r) → is_relocation_kind r.kind ≡ true → with_reloc_field r.kind (code_bytes labels d k f (Some r)) 0 ≡ code_bytes labels d k f (Some r)
code_zero labels d k f r c waits =
    let takes = (c.symbols.some r refl).long waits in
    let bytes_are : code_bytes labels d k f (Some r) ≡ spelling c.row f = code_spelled labels d k f (Some r) c ∙ ap (spelling c.row) (given_fields labels d k f (Some r) c.row c.at (waiting_kind r.kind waits)) in
    let same : spelling c.row (record f { k = 0 }) ≡ spelling c.row f = ap (λ n. spelling c.row (record f { k = n })) (sym (c.zero r refl)) in
    ap (λ (bs : List ℕ). with_reloc_field r.kind bs 0) bytes_are
    ∙ written_law k c.row f r.kind 0 c.at c.fits takes.0 takes.1 (some_room r.kind)
    ∙ same
    ∙ sym bytes_are

word_zero : with_reloc_field 7 (0 ∷ 0 ∷ 0 ∷ 0 ∷ []) 0 ≡ 0 ∷ 0 ∷ 0 ∷ 0 ∷ []
unfolding bits_outside_reloc_field reloc_field_bits
word_zero = refl

data_zero : (kind : ℕ) (bs : List ℕ) → kind ≡ 7 → bs ≡ 0 ∷ 0 ∷ 0 ∷ 0 ∷ [] → with_reloc_field kind bs 0 ≡ bs
data_zero kind bs e h = ap (λ n. with_reloc_field n bs 0) e ∙ ap (λ (xs : List ℕ). with_reloc_field 7 xs 0) h ∙ word_zero ∙ sym h

content_zero : (labels : List SymbolData) (d : DraftData) (i : ItemData) (t : StatementData) (r : ReferenceData) → IsItemOfSomeLine i → statement_of_item labels d i ≡ Some t → t.reference ≡ Some r → is_relocation_kind r.kind ≡ true → with_reloc_field r.kind t.bytes 0 ≡ t.bytes
content_zero labels d (code k f o) t r h e is waits =
    let same : statement_data d.section (code_bytes labels d k f o) o ≡ t = cc in
    let given : o ≡ Some r = ap (λ (x : StatementData). x.reference) same ∙ is in
    let P : Option ReferenceData → Type 0 = λ p. IsCodeOfSomeLine k f p → with_reloc_field r.kind (code_bytes labels d k f p) 0 ≡ code_bytes labels d k f p in
    let Q : List ℕ → Type 0 = λ bs. with_reloc_field r.kind bs 0 ≡ bs in
    subst Q (ap (λ (x : StatementData). x.bytes) same) (subst P (sym given) (λ c. code_zero labels d k f r c waits) h)
content_zero labels d (bytes bs o) t r h e is waits =
    let same : statement_data d.section bs o ≡ t = cc in
    let given : o ≡ Some r = ap (λ (x : StatementData). x.reference) same ∙ is in
    let Q : List ℕ → Type 0 = λ xs. with_reloc_field r.kind xs 0 ≡ xs in
    subst Q (ap (λ (x : StatementData). x.bytes) same) (data_zero r.kind bs (h.kind r given) (h.zero r given))
content_zero labels d _ t r h e is waits = cc

pub unfilled_law : RelocatedFieldsAreZero
unfilled_law source index t r at is waits =
    let labels : List SymbolData = symbols_of_lines (lines_in source) in
    let a = item_at labels (items_in (lines_in source)) empty_draft index t at in
    let E : List ItemData → Type 0 = λ xs. EachInDraft IsItemOfSomeLine xs in
    content_zero labels (fold (draft_after_item labels) empty_draft a.before) a.item t r (each_there IsItemOfSomeLine a.before a.after a.item (subst E a.are (source_are source))) a.content is waits
