-- The bytes of sections after relocations: those of their statements, with filled fields.
use Rattle.std.proofs.Common.{◌≡◌, ◌+◌, ℕ, zero, suc, Bool, true, false, cond, List, [], ◌∷◌, ◌++◌, length, take, drop, map, Option, Some, None, refl, sym, ap, ◌∙◌, arith, append_assoc, ◌==◌}
use Rattle.std.specs.Prelude.{slice_get, slice_set, fold, if◌then◌else◌}
use Rattle.std.specs.Option.{option_map_or}
use Rattle.std.proofs.lemmas.List.{length-append, append-nil}
use Rattle.tc_stmt.specs.Items.{ReferenceData}
use Rattle.tc_object.specs.declared.relocs.Reloc.{Reloc}
use Rattle.tc_object.specs.Objects.{SectionData}
use Rattle.tc_asm.specs.Symbols.{SymbolData}
use Rattle.tc_asm.specs.Drafts.{UseData, DraftSectionData}
use Rattle.tc_asm.specs.Objects.{section_of, reloc_of, relocs_of_sections}
use Rattle.tc_asm.specs.Statements.{StatementData, section_bytes, statement_offset, has_unresolved_symbol}
use Rattle.tc_reloc.specs.Fields.{reloc_field_number, with_reloc_field}
use Rattle.tc_link.specs.Relocated.{reloc_field_at, reloc_field_address, reloc_value, section_after_reloc, sections_after_reloc}
use Rattle.tc_link.specs.Placing.{PlacedData}
use Rattle.tc_link.specs.GlobalSymbols.{GlobalData}
use Rattle.tc_stmt.proofs.ListItems.{seam_get, seam_set, take_behind, drop_behind}
use Rattle.tc_asm.proofs.Uses.{use_at, uses_from, HaveFields}

-- ---- one section after another
module _ (g : List GlobalData) (p : PlacedData) (symbols : List SymbolData) where
  -- the section of this number with the field of one use written
  abbrev pub stepped : ℕ → SectionData → UseData → SectionData
  stepped n sec u = section_after_reloc g p (reloc_of symbols n u) sec

  reloc_here : (before after : List SectionData) (sec : SectionData) (n : ℕ) (u : UseData) → n ≡ length before → sections_after_reloc g p (before ++ sec ∷ after) (reloc_of symbols n u) ≡ before ++ stepped n sec u ∷ after
  reloc_here before after sec n u e =
      ap (λ k. option_map_or (λ x. slice_set (before ++ sec ∷ after) k (section_after_reloc g p (reloc_of symbols n u) x)) (slice_get (before ++ sec ∷ after) k) (before ++ sec ∷ after)) e
      ∙ ap (λ (o : Option SectionData). option_map_or (λ x. slice_set (before ++ sec ∷ after) (length before) (section_after_reloc g p (reloc_of symbols n u) x)) o (before ++ sec ∷ after)) (seam_get before after sec)
      ∙ seam_set before after sec (stepped n sec u)

  relocs_here : (before after : List SectionData) (sec : SectionData) (n : ℕ) (us : List UseData) (rest : List Reloc) → n ≡ length before →
      fold (sections_after_reloc g p) (before ++ sec ∷ after) (map (reloc_of symbols n) us ++ rest) ≡ fold (sections_after_reloc g p) (before ++ fold (stepped n) sec us ∷ after) rest
  relocs_here before after sec n [] rest e = refl
  relocs_here before after sec n (u ∷ us) rest e =
      ap (λ (ss : List SectionData). fold (sections_after_reloc g p) ss (map (reloc_of symbols n) us ++ rest)) (reloc_here before after sec n u e)
      ∙ relocs_here before after (stepped n sec u) n us rest e

  -- the sections of parts, numbered from this number on, with their uses written
  abbrev pub finished : ℕ → List DraftSectionData → List SectionData
  finished n [] = []
  finished n (q ∷ qs) = fold (stepped n) (section_of q) q.uses ∷ finished (n + 1) qs

  relocs_all : (before : List SectionData) (n : ℕ) (parts : List DraftSectionData) → n ≡ length before → fold (sections_after_reloc g p) (before ++ map section_of parts) (relocs_of_sections symbols n parts) ≡ before ++ finished n parts
  relocs_all before n [] e = refl
  relocs_all before n (q ∷ qs) e =
      let sec : SectionData = fold (stepped n) (section_of q) q.uses in
      let long : n + 1 ≡ length (before ++ sec ∷ []) = omega (arith, length-append before (sec ∷ [])) in
      relocs_here before (map section_of qs) (section_of q) n q.uses (relocs_of_sections symbols (n + 1) qs) e
      ∙ ap (λ (ss : List SectionData). fold (sections_after_reloc g p) ss (relocs_of_sections symbols (n + 1) qs)) (sym (append_assoc before (sec ∷ []) (map section_of qs)))
      ∙ relocs_all (before ++ sec ∷ []) (n + 1) qs long
      ∙ append_assoc before (sec ∷ []) (finished (n + 1) qs)

  pub relocs_written : (parts : List DraftSectionData) → fold (sections_after_reloc g p) (map section_of parts) (relocs_of_sections symbols 0 parts) ≡ finished 0 parts
  relocs_written parts = relocs_all [] 0 parts refl

  pub finished_at : (n i : ℕ) (parts : List DraftSectionData) (q : DraftSectionData) → slice_get parts i ≡ Some q → slice_get (finished n parts) i ≡ Some (fold (stepped (n + i)) (section_of q) q.uses)
  finished_at n i [] q e = cc
  finished_at n zero (x ∷ xs) q e =
      let same : x ≡ q = cc in
      let none : n ≡ n + 0 = omega arith in
      ap (λ (y : DraftSectionData). Some (fold (stepped n) (section_of y) y.uses)) same ∙ ap (λ k. Some (fold (stepped k) (section_of q) q.uses)) none
  finished_at n (suc i) (x ∷ xs) q e =
      let moved : n + 1 + i ≡ n + suc i = omega arith in
      finished_at (n + 1) i xs q e ∙ ap (λ k. Some (fold (stepped k) (section_of q) q.uses)) moved

  -- ---- the bytes of a section
  -- the bytes of a statement of this section at this offset, with its field filled
  abbrev pub filled_bytes : ℕ → ℕ → Option ReferenceData → List ℕ → List ℕ
  filled_bytes s n None bytes = bytes
  filled_bytes s n (Some r) bytes =
      if has_unresolved_symbol (Some r)
      then with_reloc_field r.kind bytes (reloc_field_number r.kind (reloc_field_address p (reloc_of symbols s (record { offset = n; reference = r }))) (reloc_value g p (reloc_of symbols s (record { offset = n; reference = r }))))
      else bytes

  -- the statements of this section from this offset on, with their fields filled
  abbrev pub filled_from : ℕ → ℕ → List StatementData → List StatementData
  filled_from s n [] = []
  filled_from s n (t ∷ ts) =
      if t.section == s then record t { bytes = filled_bytes s n t.reference t.bytes } ∷ filled_from s (n + length t.bytes) ts else t ∷ filled_from s n ts

  -- a single field
  field_written : (name before bytes rest : List ℕ) (s : ℕ) (r : ReferenceData) → has_unresolved_symbol (Some r) ≡ true → length bytes ≡ 4 →
      stepped s (record { name = name; bytes = before ++ (bytes ++ rest) }) (record { offset = length before; reference = r }) ≡ record { name = name; bytes = before ++ (filled_bytes s (length before) (Some r) bytes ++ rest) }
  field_written name before bytes rest s r waits four =
      let u : UseData = record { offset = length before; reference = r } in
      let none : length before ≡ length before + 0 = omega arith in
      let long : length before + 4 ≡ length before + length bytes = omega arith in
      let flat : length bytes ≡ length bytes + 0 = omega arith in
      let front : take (length before) (before ++ (bytes ++ rest)) ≡ before = take_behind before (bytes ++ rest) (length before) 0 none ∙ append-nil before in
      let here : reloc_field_at (before ++ (bytes ++ rest)) (length before) ≡ bytes
      = ap (take 4) (drop_behind before (bytes ++ rest) (length before) 0 none)
      ∙ ap (λ k. take k (bytes ++ rest)) (sym four) ∙ take_behind bytes rest (length bytes) 0 flat ∙ append-nil bytes in
      let back : drop (length before + 4) (before ++ (bytes ++ rest)) ≡ rest = drop_behind before (bytes ++ rest) (length before + 4) (length bytes) long ∙ drop_behind bytes rest (length bytes) 0 flat in
      let content : ℕ = reloc_field_number r.kind (reloc_field_address p (reloc_of symbols s u)) (reloc_value g p (reloc_of symbols s u)) in
      ap (λ (bs : List ℕ). record { name = name; bytes = take (length before) (before ++ (bytes ++ rest)) ++ (with_reloc_field r.kind bs content ++ drop (length before + 4) (before ++ (bytes ++ rest))) }) here
      ∙ ap (λ (bs : List ℕ). record { name = name; bytes = bs ++ (with_reloc_field r.kind bytes content ++ drop (length before + 4) (before ++ (bytes ++ rest))) }) front
      ∙ ap (λ (bs : List ℕ). record { name = name; bytes = before ++ (with_reloc_field r.kind bytes content ++ bs) }) back
      ∙ ap (λ b. record { name = name; bytes = before ++ (cond b (with_reloc_field r.kind bytes content) bytes ++ rest) }) (sym waits)

  filled_length : (s n : ℕ) (o : Option ReferenceData) (bytes : List ℕ) → (has_unresolved_symbol o ≡ true → length bytes ≡ 4) → length (filled_bytes s n o bytes) ≡ length bytes
  filled_length s n None bytes four = refl
  filled_length s n (Some r) bytes four = by (has_unresolved_symbol (Some r)) refl
    where
      by : (b : Bool) → has_unresolved_symbol (Some r) ≡ b
          → length (cond b (with_reloc_field r.kind bytes (reloc_field_number r.kind (reloc_field_address p (reloc_of symbols s (record { offset = n; reference = r }))) (reloc_value g p (reloc_of symbols s (record { offset = n; reference = r }))))) bytes) ≡ length bytes
      by true e = let l = four e in omega arith
      by false e = refl

  abbrev whole : List ℕ → List ℕ → SectionData
  whole name bytes = record { name = name; bytes = bytes }

  pub fields_written : (name : List ℕ) (s : ℕ) (ts : List StatementData) (before : List ℕ) → HaveFields ts →
      fold (stepped s) (record { name = name; bytes = before ++ section_bytes s ts }) (uses_from s (length before) ts) ≡ record { name = name; bytes = before ++ section_bytes s (filled_from s (length before) ts) }
  fields_written name s [] before h = refl
  fields_written name s (t ∷ ts) before h = by (t.section == s) refl (λ b. fields_written name s ts b h.1)
    where
      by_reference : (o : Option ReferenceData) (bytes : List ℕ) → (has_unresolved_symbol o ≡ true → length bytes ≡ 4)
          → ((b : List ℕ) → fold (stepped s) (record { name = name; bytes = b ++ section_bytes s ts }) (uses_from s (length b) ts) ≡ record { name = name; bytes = b ++ section_bytes s (filled_from s (length b) ts) })
          → fold (stepped s) (record { name = name; bytes = before ++ (bytes ++ section_bytes s ts) }) (use_at (length before) o ++ uses_from s (length before + length bytes) ts)
          ≡ record { name = name; bytes = before ++ (filled_bytes s (length before) o bytes ++ section_bytes s (filled_from s (length before + length bytes) ts)) }
      by_reference None bytes four rec =
          ap (λ (bs : List ℕ). fold (stepped s) (whole name bs) (uses_from s (length before + length bytes) ts)) (sym (append_assoc before bytes (section_bytes s ts)))
          ∙ ap (λ n. fold (stepped s) (whole name ((before ++ bytes) ++ section_bytes s ts)) (uses_from s n ts)) (sym (length-append before bytes))
          ∙ rec (before ++ bytes)
          ∙ ap (λ n. whole name ((before ++ bytes) ++ section_bytes s (filled_from s n ts))) (length-append before bytes)
          ∙ ap (whole name) (append_assoc before bytes (section_bytes s (filled_from s (length before + length bytes) ts)))
      by_reference (Some r) bytes four rec = by_open (has_unresolved_symbol (Some r)) refl
        where
          more : List ℕ
          more = with_reloc_field r.kind bytes (reloc_field_number r.kind (reloc_field_address p (reloc_of symbols s (record { offset = length before; reference = r }))) (reloc_value g p (reloc_of symbols s (record { offset = length before; reference = r }))))

          by_open : (b : Bool) → has_unresolved_symbol (Some r) ≡ b
              → fold (stepped s) (record { name = name; bytes = before ++ (bytes ++ section_bytes s ts) }) (cond b (record { offset = length before; reference = r } ∷ []) [] ++ uses_from s (length before + length bytes) ts)
              ≡ record { name = name; bytes = before ++ (cond b (with_reloc_field r.kind bytes (reloc_field_number r.kind (reloc_field_address p (reloc_of symbols s (record { offset = length before; reference = r }))) (reloc_value g p (reloc_of symbols s (record { offset = length before; reference = r }))))) bytes ++ section_bytes s (filled_from s (length before + length bytes) ts)) }
          by_open false e =
              ap (λ (bs : List ℕ). fold (stepped s) (whole name bs) (uses_from s (length before + length bytes) ts)) (sym (append_assoc before bytes (section_bytes s ts)))
              ∙ ap (λ n. fold (stepped s) (whole name ((before ++ bytes) ++ section_bytes s ts)) (uses_from s n ts)) (sym (length-append before bytes))
              ∙ rec (before ++ bytes)
              ∙ ap (λ n. whole name ((before ++ bytes) ++ section_bytes s (filled_from s n ts))) (length-append before bytes)
              ∙ ap (whole name) (append_assoc before bytes (section_bytes s (filled_from s (length before + length bytes) ts)))
          by_open true e =
              let l : length bytes ≡ 4 = four e in
              let same : length more ≡ length bytes = omega arith in
              let end : length (before ++ more) ≡ length before + length bytes = omega (arith, length-append before more) in
              ap (λ (x : SectionData). fold (stepped s) x (uses_from s (length before + length bytes) ts)) (field_written name before bytes (section_bytes s ts) s r e l)
              ∙ ap (λ b. fold (stepped s) (whole name (before ++ (cond b more bytes ++ section_bytes s ts))) (uses_from s (length before + length bytes) ts)) e
              ∙ ap (λ (bs : List ℕ). fold (stepped s) (whole name bs) (uses_from s (length before + length bytes) ts)) (sym (append_assoc before more (section_bytes s ts)))
              ∙ ap (λ n. fold (stepped s) (whole name ((before ++ more) ++ section_bytes s ts)) (uses_from s n ts)) (sym end)
              ∙ rec (before ++ more)
              ∙ ap (λ n. whole name ((before ++ more) ++ section_bytes s (filled_from s n ts))) end
              ∙ ap (whole name) (append_assoc before more (section_bytes s (filled_from s (length before + length bytes) ts)))

      by : (b : Bool) → (t.section == s) ≡ b
          → ((c : List ℕ) → fold (stepped s) (record { name = name; bytes = c ++ section_bytes s ts }) (uses_from s (length c) ts) ≡ record { name = name; bytes = c ++ section_bytes s (filled_from s (length c) ts) })
          → fold (stepped s) (record { name = name; bytes = before ++ (cond b t.bytes [] ++ section_bytes s ts) }) (cond b (use_at (length before) t.reference ++ uses_from s (length before + length t.bytes) ts) (uses_from s (length before) ts))
          ≡ record { name = name; bytes = before ++ section_bytes s (cond b (record t { bytes = filled_bytes s (length before) t.reference t.bytes } ∷ filled_from s (length before + length t.bytes) ts) (t ∷ filled_from s (length before) ts)) }
      by true e rec =
          by_reference t.reference t.bytes h.0.four rec
          ∙ ap (λ b. whole name (before ++ (cond b (filled_bytes s (length before) t.reference t.bytes) [] ++ section_bytes s (filled_from s (length before + length t.bytes) ts)))) (sym e)
      by false e rec = rec before ∙ ap (λ b. whole name (before ++ (cond b t.bytes [] ++ section_bytes s (filled_from s (length before) ts)))) (sym e)

  -- a statement with its field filled is at its own place, after the same bytes
  pub filled_at : (s n j : ℕ) (ts : List StatementData) (t : StatementData) → HaveFields ts → slice_get ts j ≡ Some t → (t.section == s) ≡ true →
      slice_get (filled_from s n ts) j ≡ Some (record t { bytes = filled_bytes s (n + statement_offset ts j s) t.reference t.bytes })
  filled_at s n j [] t h e here = cc
  filled_at s n zero (x ∷ xs) t h e here =
      let same : x ≡ t = cc in
      let none : n ≡ n + 0 = omega arith in
      ap (λ (y : StatementData). slice_get (cond (y.section == s) (record y { bytes = filled_bytes s n y.reference y.bytes } ∷ filled_from s (n + length y.bytes) xs) (y ∷ filled_from s n xs)) zero) same
      ∙ ap (λ b. slice_get (cond b (record t { bytes = filled_bytes s n t.reference t.bytes } ∷ filled_from s (n + length t.bytes) xs) (t ∷ filled_from s n xs)) zero) here
      ∙ ap (λ k. Some (record t { bytes = filled_bytes s k t.reference t.bytes })) none
  filled_at s n (suc j) (x ∷ xs) t h e here = by (x.section == s) refl (λ m. filled_at s m j xs t h.1 e here)
    where
      by : (b : Bool) → (x.section == s) ≡ b → ((m : ℕ) → slice_get (filled_from s m xs) j ≡ Some (record t { bytes = filled_bytes s (m + statement_offset xs j s) t.reference t.bytes }))
          → slice_get (cond b (record x { bytes = filled_bytes s n x.reference x.bytes } ∷ filled_from s (n + length x.bytes) xs) (x ∷ filled_from s n xs)) (suc j)
          ≡ Some (record t { bytes = filled_bytes s (n + length (cond b x.bytes [] ++ section_bytes s (take j xs))) t.reference t.bytes })
      by true f rec =
          let far : n + length x.bytes + length (section_bytes s (take j xs)) ≡ n + length (x.bytes ++ section_bytes s (take j xs)) = omega (arith, length-append x.bytes (section_bytes s (take j xs))) in
          rec (n + length x.bytes) ∙ ap (λ k. Some (record t { bytes = filled_bytes s k t.reference t.bytes })) far
      by false f rec = rec n

  pub filled_offset : (s n j : ℕ) (ts : List StatementData) → HaveFields ts → statement_offset (filled_from s n ts) j s ≡ statement_offset ts j s
  filled_offset s n zero [] h = refl
  filled_offset s n zero (x ∷ xs) h = by (x.section == s)
    where
      by : (b : Bool) → statement_offset (cond b (record x { bytes = filled_bytes s n x.reference x.bytes } ∷ filled_from s (n + length x.bytes) xs) (x ∷ filled_from s n xs)) zero s ≡ 0
      by true = refl
      by false = refl
  filled_offset s n (suc j) [] h = refl
  filled_offset s n (suc j) (x ∷ xs) h = by (x.section == s) refl (λ m. filled_offset s m j xs h.1)
    where
      by : (b : Bool) → (x.section == s) ≡ b → ((m : ℕ) → statement_offset (filled_from s m xs) j s ≡ statement_offset xs j s)
          → statement_offset (cond b (record x { bytes = filled_bytes s n x.reference x.bytes } ∷ filled_from s (n + length x.bytes) xs) (x ∷ filled_from s n xs)) (suc j) s
          ≡ length (cond b x.bytes [] ++ section_bytes s (take j xs))
      by true f rec =
          let mine : List ℕ = filled_bytes s n x.reference x.bytes in
          let rest : List ℕ = section_bytes s (take j (filled_from s (n + length x.bytes) xs)) in
          let size = filled_length s n x.reference x.bytes h.0.four in
          let tail = rec (n + length x.bytes) in
          ap (λ b. length (cond b (filled_bytes s n x.reference x.bytes) [] ++ section_bytes s (take j (filled_from s (n + length x.bytes) xs)))) f
          ∙ omega (arith, length-append mine rest, length-append x.bytes (section_bytes s (take j xs)))
      by false f rec = ap (λ b. length (cond b x.bytes [] ++ section_bytes s (take j (filled_from s n xs)))) f ∙ rec n
