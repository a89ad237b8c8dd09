-- Instructions with the field of a symbol filled.
use Rattle.std.proofs.Common.{◌≡◌, ◌⊎◌, inl, inr, ℕ, zero, suc, Bool, true, false, cond, List, [], ◌∷◌, Option, Some, ap, subst, ◌∙◌}
use Rattle.std.specs.Prelude.{slice_get}
use Rattle.std.specs.Option.{option_map_or}
use Rattle.tc_isa.specs.declared.fields.Fields.{Fields}
use Rattle.tc_isa.specs.Rows.{RowData}
use Rattle.tc_isa.specs.Spelling.{spelling}
use Rattle.tc_isa.proofs.TableFacts.{row_at}
use Rattle.tc_stmt.specs.Items.{ReferenceData, ItemData, code, bytes, zeros}
use Rattle.tc_reloc.specs.Fields.{with_reloc_field}
use Rattle.tc_stmt.specs.Lines.{lines_in, items_in}
use Rattle.tc_asm.specs.Symbols.{SymbolData}
use Rattle.tc_asm.specs.Drafts.{DraftData, empty_draft, assembled_row_code, row_fields_with_target, code_bytes, draft_after_item}
use Rattle.tc_isa.specs.Relocations.{is_relocation_kind}
use Rattle.tc_asm.specs.DraftedSources.{symbols_of_lines}
use Rattle.tc_asm.specs.DraftInvariants.{EachInDraft}
use Rattle.tc_asm.specs.Statements.{StatementData, statement_of_item, statement_if_room, statements_from}
use Rattle.tc_program.specs.PlacementLaws.{SourceFieldFillsRow, UnresolvedFieldsAreFillable}
use Rattle.tc_stmt.proofs.ListItems.{InRest, in_front_or_rest}
use Rattle.tc_asm.specs.ItemInvariants.{IsCodeOfSomeLine, IsItemOfSomeLine}
use Rattle.tc_asm.proofs.SourceItems.{source_are}
use Rattle.tc_asm.proofs.CodeSizes.{fits_true, resolved_fits}
use Rattle.tc_reloc.proofs.FilledRows.{filled_row, filled_fits}

-- ---- statements
code_fills : (labels : List SymbolData) (d : DraftData) (k : ℕ) (f : Fields) (o : Option ReferenceData) (r : ReferenceData) → IsCodeOfSomeLine k f o → o ≡ Some r → is_relocation_kind r.kind ≡ true → SourceFieldFillsRow r.kind (code_bytes labels d k f o)
unfolding code_bytes assembled_row_code
code_fills labels d k f o r c is waits =
    let fit = resolved_fits labels d k f o c.row c.at c.symbols c.fits in
    let takes = (c.symbols.some r is).long waits in
    let bytes_are : code_bytes labels d k f o ≡ spelling c.row (row_fields_with_target labels d k f o).fields
    = ap (λ (q : Option RowData). option_map_or (λ row. assembled_row_code row (row_fields_with_target labels d k f o).fields) q []) c.at
    ∙ ap (λ b. cond b (spelling c.row (row_fields_with_target labels d k f o).fields) []) (fits_true c.row (row_fields_with_target labels d k f o).fields fit) in
    record {
      place = k;
      row = c.row;
      is_row = c.at;
      fields = (row_fields_with_target labels d k f o).fields;
      fits = fit;
      spelled = bytes_are;
      filled = λ n room. (filled_fits k c.row (row_fields_with_target labels d k f o).fields r.kind n c.at fit takes.1 room, ap (λ (bs : List ℕ). with_reloc_field r.kind bs n) bytes_are ∙ filled_row c.row (row_fields_with_target labels d k f o).fields r.kind n (row_at k c.row c.at) fit takes.0 takes.1 room);
    }

-- a statement that waits for an address is a word of data, or an instruction with a constant to
-- fill
record Waits (t : StatementData) : Type 0 where
  so : (r : ReferenceData) → t.reference ≡ Some r → is_relocation_kind r.kind ≡ true → (r.kind ≡ 7) ⊎ SourceFieldFillsRow r.kind t.bytes

standing_waits : (b : Bool) (t : StatementData) → Waits t → (j : ℕ) (x : StatementData) → slice_get (cond b (t ∷ []) []) j ≡ Some x → Waits x
standing_waits true t h zero x e = let same : t ≡ x = cc in subst Waits same h
standing_waits true t h (suc j) x e = cc
standing_waits false t h j x e = cc

item_waits : (labels : List SymbolData) (d : DraftData) (i : ItemData) → IsItemOfSomeLine i → (j : ℕ) (x : StatementData) → slice_get (statement_if_room d (statement_of_item labels d i)) j ≡ Some x → Waits x
item_waits labels d (code k f o) h j x e = standing_waits _ _ (record { so = λ r is waits. inr (code_fills labels d k f o r h is waits) }) j x e
item_waits labels d (bytes bs o) h j x e = standing_waits _ _ (record { so = λ r is waits. inl (h.kind r is) }) j x e
item_waits labels d (zeros n) h j x e = standing_waits _ _ (record { so = λ r is waits. cc }) j x e
item_waits labels d _ h j x e = cc

items_wait : (labels : List SymbolData) (is : List ItemData) (d : DraftData) → EachInDraft IsItemOfSomeLine is → (j : ℕ) (x : StatementData) → slice_get (statements_from labels d is) j ≡ Some x → Waits x
items_wait labels [] d h j x e = cc
items_wait labels (i ∷ is) d h j x e = by (in_front_or_rest (statement_if_room d (statement_of_item labels d i)) (statements_from labels (draft_after_item labels d i) is) j x e) (λ k g. items_wait labels is (draft_after_item labels d i) h.1 k x g)
  where
    by : (slice_get (statement_if_room d (statement_of_item labels d i)) j ≡ Some x) ⊎ InRest StatementData (statement_if_room d (statement_of_item labels d i)) (statements_from labels (draft_after_item labels d i) is) j x
        → ((k : ℕ) → slice_get (statements_from labels (draft_after_item labels d i) is) k ≡ Some x → Waits x) → Waits x
    by (inl g) rec = item_waits labels d i h.0 j x g
    by (inr r) rec = rec r.at r.is

pub fields_law : UnresolvedFieldsAreFillable
fields_law source index t r at is waits = (items_wait (symbols_of_lines (lines_in source)) (items_in (lines_in source)) empty_draft (source_are source) index t at).so r is waits
