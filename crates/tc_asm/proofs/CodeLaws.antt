-- The bytes of an instruction, and rows by number.
use Rattle.std.proofs.Common.{◌≡◌, ◌<◌, ◌≤◌, ◌==◌, ◌∷◌, zero, suc, length, get_or, map, ℕ, Bool, true, false, cond, List, [], Option, None, Some, refl, ap, sym, subst, ◌∙◌, arith}
use Rattle.std.specs.Prelude.{slice_get, option_map}
use Rattle.std.proofs.lemmas.List.{length-map}
use Rattle.std.proofs.lemmas.Option.{slice_get-map, slice_get-get_or}
use Rattle.tc_isa.specs.declared.table.Row.{Row}
use Rattle.std.specs.Option.{option_map_or}
use Rattle.tc_isa.specs.declared.fields.Fields.{Fields}
use Rattle.tc_isa.specs.Rows.{RowData, row_of, table_rows}
use Rattle.tc_isa.specs.ValidRowFields.{FieldsFitRow}
use Rattle.tc_isa.specs.Spelling.{spelling, Spells}
use Rattle.tc_isa.specs.Insts.{InstData, IsInst}
use Rattle.tc_stmt.specs.Items.{ReferenceData}
use Rattle.tc_asm.specs.Symbols.{SymbolData}
use Rattle.tc_encode.specs.Decoding.{decoded_fields_fit}
use Rattle.tc_encode.proofs.Spelled.{fits_from, fits_true}
use Rattle.tc_asm.specs.Drafts.{DraftData, assembled_row_code, assembled_code, bare_row_fields, fields_with_target, row_fields_with_target}

-- the spelling of an instruction is the bytes of its row and fields
pub spells-bytes_of : (k : ℕ) (f : Fields) (i : InstData) (bs : List ℕ) → i ≡ record { row = k; c = f.c; s1 = f.s1; s2 = f.s2; n = f.n; k = f.k } → Spells bs i → bs ≡ assembled_code k f
unfolding assembled_row_code
spells-bytes_of k f i bs e s =
    let at : slice_get table_rows k ≡ Some s.inst.row = ap (λ (j : InstData). slice_get table_rows j.row) (sym e) ∙ s.inst.at in
    let same : Fields → Fields = λ g. g in
    let fits : FieldsFitRow s.inst.row f = subst (λ (j : InstData). FieldsFitRow s.inst.row (record { c = j.c; s1 = j.s1; s2 = j.s2; n = j.n; k = j.k })) e s.inst.fits in
    s.is
    ∙ ap (λ (j : InstData). spelling s.inst.row (record { c = j.c; s1 = j.s1; s2 = j.s2; n = j.n; k = j.k })) e
    ∙ sym (ap (λ b. cond b (spelling s.inst.row f) []) (fits_true s.inst.row f fits))
    ∙ sym (ap (λ o. option_map_or (λ row. assembled_row_code row f) o []) at)

-- fields that are no instruction have no bytes
pub unlisted-bytes_of : (k : ℕ) (f : Fields) → ¬ IsInst (record { row = k; c = f.c; s1 = f.s1; s2 = f.s2; n = f.n; k = f.k }) → [] ≡ assembled_code k f
unfolding assembled_row_code
unlisted-bytes_of k f none = by (slice_get table_rows k) refl
  where
    by_test : (row : RowData) (b : Bool) → slice_get table_rows k ≡ Some row → decoded_fields_fit row f ≡ b → [] ≡ cond b (spelling row f) []
    by_test row true at e = absurd (none (record { row = row; at = at; fits = fits_from row f e }))
    by_test row false at e = refl

    by : (o : Option RowData) → slice_get table_rows k ≡ o → [] ≡ option_map_or (λ row. assembled_row_code row f) o []
    by None e = refl
    by (Some row) e = by_test row (decoded_fields_fit row f) e refl

-- ---- rows by number
pub row_listed : (rows : List Row) (k : ℕ) (d : Row) → map row_of rows ≡ table_rows → k < length rows → slice_get table_rows k ≡ Some (row_of (get_or rows k d))
row_listed rows k d e h =
    ap (λ (ls : List RowData). slice_get ls k) (sym e) ∙ slice_get-map row_of rows k ∙ ap (option_map row_of) (slice_get-get_or rows k d h)

past : {A : Type 0} (xs : List A) (k : ℕ) → length xs ≤ k → slice_get xs k ≡ None
past [] k h = refl
past (x ∷ xs) zero h = absurd (omega arith)
past (x ∷ xs) (suc k) h = past xs k (omega arith)

pub row_unlisted : (rows : List Row) (k : ℕ) → map row_of rows ≡ table_rows → length rows ≤ k → slice_get table_rows k ≡ None
row_unlisted rows k e h = ap (λ (ls : List RowData). slice_get ls k) (sym e) ∙ past (map row_of rows) k (rw (length-map rows row_of) h)

-- ---- instructions without a target that is resolved at once
pub found_far : (labels : List SymbolData) (d : DraftData) (k : ℕ) (f : Fields) (o : Option ReferenceData) → option_map_or (λ (q : ReferenceData). q.kind == 0) o false ≡ false
    → row_fields_with_target labels d k f o ≡ bare_row_fields f
found_far labels d k f o far = by (slice_get table_rows k)
  where
    plain : (row : RowData) (p : Option ReferenceData) → option_map_or (λ (q : ReferenceData). q.kind == 0) p false ≡ false → fields_with_target labels d row f p ≡ bare_row_fields f
    plain row None h = refl
    plain row (Some q) h = rw h refl

    by : (q : Option RowData) → option_map_or (λ row. fields_with_target labels d row f o) q (bare_row_fields f) ≡ bare_row_fields f
    by None = refl
    by (Some row) = plain row o far
