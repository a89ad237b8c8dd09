-- Both passes over a source find the same symbols.
use Rattle.std.proofs.Common.{◌≡◌, ◌<◌, ◌≤◌, ◌+◌, ◌^◌, ◌&&◌, ℕ, zero, suc, Bool, true, false, cond, List, [], ◌∷◌, ◌++◌, length, map, get_or, take, replicate, Option, Some, None, refl, sym, ap, subst, ◌∙◌, arith, length-append}
use Rattle.std.specs.Prelude.{All, fold, nat_lt, nat_le, not, position, slice_get, unwrap_or}
use Rattle.std.specs.Option.{option_map_or}
use Rattle.std.specs.Str.{bytes_eq}
use Rattle.std.proofs.lemmas.List.{length-map, length-replicate, map-append, get_or-map, take_all}
use Rattle.std.proofs.lemmas.List.Sums.{fold_more}
use Rattle.tc_isa.specs.declared.fields.Fields.{Fields}
use Rattle.tc_isa.specs.Rows.{RowData, table_rows, is_32_bit_row}
use Rattle.tc_isa.specs.Relocations.{is_relocation_kind}
use Rattle.tc_stmt.specs.Names.{is_source_name}
use Rattle.tc_stmt.specs.Items.{ReferenceData, ItemData, item_of, label, section, global, code, bytes, zeros}
use Rattle.tc_lex.proofs.Mapped.{position-map}
use Rattle.tc_asm.specs.declared.symbols.Place.{Place}
use Rattle.tc_stmt.specs.declared.item.Item.{Item}
use Rattle.tc_stmt.specs.Lines.{lines_in, items_in}
use Rattle.tc_asm.specs.Symbols.{SymbolData, with_name, with_symbol_label, with_global_symbol}
use Rattle.tc_asm.specs.Drafts.{DraftSectionData, DraftData, draft_section, empty_draft, next_byte_offset, has_current_section, has_room, next_byte_place, with_label, section_number, with_current_section, with_global, with_section_bytes, with_bytes_if_room, with_section_use, with_reloc_use, with_reference, with_content, code_bytes, draft_after_item, draft_section_size_at, assembled_code_size}
use Rattle.tc_asm.specs.DraftedSources.{symbols_of_lines, symbols_in}
use Rattle.tc_asm.specs.ItemInvariants.{IsCodeOfSomeLine, IsItemOfSomeLine}
use Rattle.tc_asm.specs.AlikeDrafts.{SectionSizeData, section_size_data, HaveSameSizesAndSymbols}
use Rattle.tc_asm.specs.DraftInvariants.{EachInDraft}
use Rattle.tc_stmt.proofs.Cases.{by_test}
use Rattle.tc_asm.proofs.ListLaws.{changed, changed-set, size_at-get}
use Rattle.tc_asm.proofs.SourceItems.{source_are}
use Rattle.tc_asm.proofs.CodeSizes.{code_length}
use Rattle.tc_asm.proofs.LaidLaws.{lines-items}

-- ---- drafts with the same symbols and sizes
pub alike_same : (d : DraftData) → HaveSameSizesAndSymbols d d
alike_same d = record { section = refl; sizes = refl; symbols = refl; total = refl }

alike_then : (d e f : DraftData) → HaveSameSizesAndSymbols d e → HaveSameSizesAndSymbols e f → HaveSameSizesAndSymbols d f
alike_then d e f h k = record { section = h.section ∙ k.section; sizes = h.sizes ∙ k.sizes; symbols = h.symbols ∙ k.symbols; total = h.total ∙ k.total }

alike_back : (d e : DraftData) → HaveSameSizesAndSymbols d e → HaveSameSizesAndSymbols e d
alike_back d e h = record { section = sym h.section; sizes = sym h.sizes; symbols = sym h.symbols; total = sym h.total }

alike_cond : (a b : Bool) (d e x y : DraftData) → a ≡ b → HaveSameSizesAndSymbols x y → HaveSameSizesAndSymbols d e → HaveSameSizesAndSymbols (cond a x d) (cond b y e)
alike_cond true true d e x y same h k = h
alike_cond true false d e x y same h k = cc
alike_cond false true d e x y same h k = cc
alike_cond false false d e x y same h k = k

-- ---- sections
heads : {A : Type 0} (x y : A) (xs ys : List A) → (x ∷ xs) ≡ (y ∷ ys) → x ≡ y
heads x y xs ys e = cc

tails : {A : Type 0} (x y : A) (xs ys : List A) → (x ∷ xs) ≡ (y ∷ ys) → xs ≡ ys
tails x y xs ys e = cc

same_size : (ps qs : List DraftSectionData) (n : ℕ) → map section_size_data ps ≡ map section_size_data qs → draft_section_size_at ps n ≡ draft_section_size_at qs n
same_size [] [] n e = refl
same_size [] (q ∷ qs) n e = cc
same_size (p ∷ ps) [] n e = cc
same_size (p ∷ ps) (q ∷ qs) zero e = ap (λ (s : SectionSizeData). s.size) (heads (section_size_data p) (section_size_data q) (map section_size_data ps) (map section_size_data qs) e)
same_size (p ∷ ps) (q ∷ qs) (suc n) e = same_size ps qs n (tails (section_size_data p) (section_size_data q) (map section_size_data ps) (map section_size_data qs) e)

same_grown : (f g : DraftSectionData → DraftSectionData) → ((p q : DraftSectionData) → section_size_data p ≡ section_size_data q → section_size_data (f p) ≡ section_size_data (g q)) → (ps qs : List DraftSectionData) (n : ℕ) → map section_size_data ps ≡ map section_size_data qs →
    map section_size_data (changed f ps n) ≡ map section_size_data (changed g qs n)
same_grown f g h [] [] n e = refl
same_grown f g h [] (q ∷ qs) n e = cc
same_grown f g h (p ∷ ps) [] n e = cc
same_grown f g h (p ∷ ps) (q ∷ qs) zero e =
    ap (λ (s : SectionSizeData). s ∷ map section_size_data ps) (h p q (heads (section_size_data p) (section_size_data q) (map section_size_data ps) (map section_size_data qs) e))
    ∙ ap (λ (ss : List SectionSizeData). section_size_data (g q) ∷ ss) (tails (section_size_data p) (section_size_data q) (map section_size_data ps) (map section_size_data qs) e)
same_grown f g h (p ∷ ps) (q ∷ qs) (suc n) e =
    ap (λ (s : SectionSizeData). s ∷ map section_size_data (changed f ps n)) (heads (section_size_data p) (section_size_data q) (map section_size_data ps) (map section_size_data qs) e)
    ∙ ap (λ (ss : List SectionSizeData). section_size_data q ∷ ss) (same_grown f g h ps qs n (tails (section_size_data p) (section_size_data q) (map section_size_data ps) (map section_size_data qs) e))

same_kept : (f : DraftSectionData → DraftSectionData) → ((p : DraftSectionData) → section_size_data (f p) ≡ section_size_data p) → (ps : List DraftSectionData) (n : ℕ) → map section_size_data (changed f ps n) ≡ map section_size_data ps
same_kept f h [] n = refl
same_kept f h (p ∷ ps) zero = ap (λ (s : SectionSizeData). s ∷ map section_size_data ps) (h p)
same_kept f h (p ∷ ps) (suc n) = ap (λ (ss : List SectionSizeData). section_size_data p ∷ ss) (same_kept f h ps n)

module _ (d e : DraftData) (h : HaveSameSizesAndSymbols d e) where
  long : length d.parts ≡ length e.parts
  long = sym (length-map d.parts section_size_data) ∙ ap length h.sizes ∙ length-map e.parts section_size_data

  there : has_current_section d ≡ has_current_section e
  there = ap (λ n. nat_lt n (length d.parts)) h.section ∙ ap (nat_lt e.section) long

  room : (m n : ℕ) → m ≡ n → has_room d m ≡ has_room e n
  room m n same = ap (λ k. nat_le (k + m) (2 ^ 24)) h.total ∙ ap (λ k. nat_le (e.total + k) (2 ^ 24)) same

  place : next_byte_offset d ≡ next_byte_offset e
  unfolding next_byte_offset
  place = size_at-get d.parts d.section ∙ ap (draft_section_size_at d.parts) h.section ∙ same_size d.parts e.parts e.section h.sizes ∙ sym (size_at-get e.parts e.section)

  same_here : next_byte_place d ≡ next_byte_place e
  same_here = ap (λ n. at n (next_byte_offset d)) h.section ∙ ap (at e.section) place
    where
      at : ℕ → ℕ → Place
      at s n = record { section = s; offset = n }

  number : (name : List ℕ) → section_number d.parts name ≡ section_number e.parts name
  number name =
      ap (λ o. unwrap_or o (length d.parts)) (position-map (λ (s : SectionSizeData). bytes_eq name s.name) section_size_data d.parts ∙ ap (position (λ (s : SectionSizeData). bytes_eq name s.name)) h.sizes ∙ sym (position-map (λ (s : SectionSizeData). bytes_eq name s.name) section_size_data e.parts))
      ∙ ap (unwrap_or (position (λ (p : DraftSectionData). bytes_eq name p.name) e.parts)) long

  -- ---- a single step
  label_alike : (name : List ℕ) → HaveSameSizesAndSymbols (with_label d name) (with_label e name)
  unfolding with_label
  label_alike name =
      alike_cond _ _ d e _ _ refl
      (record {
        section = h.section;
        sizes = h.sizes;
        symbols = ap (λ (ss : List SymbolData). with_symbol_label ss name (next_byte_place d)) h.symbols ∙ ap (with_symbol_label e.symbols name) same_here;
        total = h.total;
      }) h

  entered_alike : (name : List ℕ) → HaveSameSizesAndSymbols (with_current_section d name) (with_current_section e name)
  unfolding with_current_section
  entered_alike name =
      alike_cond (not (is_source_name name)) (not (is_source_name name)) _ _ d e refl h
      (alike_cond _ _ _ _ _ _ (ap (λ n. nat_lt n (length d.parts)) (number name) ∙ ap (nat_lt (section_number e.parts name)) long)
      (record { section = number name; sizes = h.sizes; symbols = h.symbols; total = h.total })
      (alike_cond _ _ d e _ _ (ap (λ n. nat_lt n 64) long)
      (record {
        section = long;
        sizes = map-append section_size_data d.parts (draft_section name [] [] ∷ []) ∙ ap (λ (ss : List SectionSizeData). ss ++ section_size_data (draft_section name [] []) ∷ []) h.sizes ∙ sym (map-append section_size_data e.parts (draft_section name [] [] ∷ []));
        symbols = h.symbols;
        total = h.total;
      }) h))

  global_alike : (name : List ℕ) → HaveSameSizesAndSymbols (with_global d name) (with_global e name)
  unfolding with_global
  global_alike name = alike_cond _ _ d e _ _ refl (record { section = h.section; sizes = h.sizes; symbols = ap (λ (ss : List SymbolData). with_global_symbol ss name) h.symbols; total = h.total }) h

  bytes_alike : (bs cs : List ℕ) → length bs ≡ length cs → HaveSameSizesAndSymbols (with_bytes_if_room d bs) (with_bytes_if_room e cs)
  unfolding with_bytes_if_room with_section_bytes
  bytes_alike bs cs same =
      alike_cond _ _ d e _ _ (ap (λ b. b && has_room d (length bs)) there ∙ ap (λ b. has_current_section e && b) (room (length bs) (length cs) same))
      (record {
        section = h.section;
        sizes = ap (map section_size_data) (changed-set (λ (p : DraftSectionData). record p { bytes = p.bytes ++ bs }) d.parts d.section)
            ∙ ap (λ n. map section_size_data (changed (λ (p : DraftSectionData). record p { bytes = p.bytes ++ bs }) d.parts n)) h.section
            ∙ same_grown (λ (p : DraftSectionData). record p { bytes = p.bytes ++ bs }) (λ (p : DraftSectionData). record p { bytes = p.bytes ++ cs }) longer d.parts e.parts e.section h.sizes
            ∙ sym (ap (map section_size_data) (changed-set (λ (p : DraftSectionData). record p { bytes = p.bytes ++ cs }) e.parts e.section));
        symbols = h.symbols;
        total = ap (λ n. n + length bs) h.total ∙ ap (λ n. e.total + n) same;
      }) h
    where
      sized : List ℕ → ℕ → SectionSizeData
      sized name n = record { name = name; size = n }

      longer : (p q : DraftSectionData) → section_size_data p ≡ section_size_data q → section_size_data (record p { bytes = p.bytes ++ bs }) ≡ section_size_data (record q { bytes = q.bytes ++ cs })
      longer p q e =
          let size : length (p.bytes ++ bs) ≡ length (q.bytes ++ cs) = omega (arith, length-append p.bytes bs, length-append q.bytes cs, ap (λ (s : SectionSizeData). s.size) e) in
          ap (λ (name : List ℕ). sized name (length (p.bytes ++ bs))) (ap (λ (s : SectionSizeData). s.name) e) ∙ ap (sized q.name) size

-- uses of symbols don't change symbols and sizes
use_alike : (d : DraftData) (n : ℕ) (r : ReferenceData) → HaveSameSizesAndSymbols (with_reloc_use d n r) d
unfolding with_reloc_use with_section_use
use_alike d n r =
    by_test (λ (x : DraftData). HaveSameSizesAndSymbols x d) _ _ _
    (λ b. record {
      section = refl;
      sizes = ap (map section_size_data) (changed-set (λ (p : DraftSectionData). record p { uses = p.uses ++ record { offset = next_byte_offset d; reference = r } ∷ [] }) d.parts d.section) ∙ same_kept (λ (p : DraftSectionData). record p { uses = p.uses ++ record { offset = next_byte_offset d; reference = r } ∷ [] }) (λ p. refl) d.parts d.section;
      symbols = refl;
      total = refl;
    })
    (λ b. alike_same d)

seen_alike : (d e : DraftData) (name : List ℕ) → HaveSameSizesAndSymbols d e → HaveSameSizesAndSymbols (record d { symbols = with_name d.symbols name }) (record e { symbols = with_name e.symbols name })
seen_alike d e name h = record { section = h.section; sizes = h.sizes; symbols = ap (λ (ss : List SymbolData). with_name ss name) h.symbols; total = h.total }

reference_alike : (d e : DraftData) (m n : ℕ) (o : Option ReferenceData) → HaveSameSizesAndSymbols d e → HaveSameSizesAndSymbols (with_reference d m o) (with_reference e n o)
unfolding with_reference
reference_alike d e m n None h = h
reference_alike d e m n (Some r) h =
    let x : DraftData = record d { symbols = with_name d.symbols r.name } in
    let y : DraftData = record e { symbols = with_name e.symbols r.name } in
    alike_cond (is_source_name r.name) (is_source_name r.name) d e _ _ refl
    (alike_then (with_reloc_use x m r) x (with_reloc_use y n r) (use_alike x m r) (alike_then x y (with_reloc_use y n r) (seen_alike d e r.name h) (alike_back (with_reloc_use y n r) y (use_alike y n r)))) h

content_alike : (d e : DraftData) (bs cs : List ℕ) (o : Option ReferenceData) → length bs ≡ length cs → HaveSameSizesAndSymbols d e → HaveSameSizesAndSymbols (with_content d bs o) (with_content e cs o)
content_alike d e bs cs o same h = bytes_alike (with_reference d (length bs) o) (with_reference e (length cs) o) (reference_alike d e (length bs) (length cs) o h) bs cs same

pub step_alike : (labels others : List SymbolData) (d e : DraftData) (i : ItemData) → IsItemOfSomeLine i → HaveSameSizesAndSymbols d e → HaveSameSizesAndSymbols (draft_after_item labels d i) (draft_after_item others e i)
unfolding draft_after_item
step_alike labels others d e (label name) good h = label_alike d e h name
step_alike labels others d e (section name) good h = entered_alike d e h name
step_alike labels others d e (global name) good h = global_alike d e h name
step_alike labels others d e (code k f o) good h =
    content_alike d e (code_bytes labels d k f o) (code_bytes others e k f o) o (code_length labels d k f o good ∙ sym (code_length others e k f o good)) h
step_alike labels others d e (bytes bs o) good h = content_alike d e bs bs o refl h
step_alike labels others d e (zeros n) good h = bytes_alike d e h (replicate n 0) (replicate n 0) refl

items_alike : (labels others : List SymbolData) (is : List ItemData) (d e : DraftData) → EachInDraft IsItemOfSomeLine is → HaveSameSizesAndSymbols d e → HaveSameSizesAndSymbols (fold (draft_after_item labels) d is) (fold (draft_after_item others) e is)
items_alike labels others [] d e good h = h
items_alike labels others (i ∷ is) d e good h = items_alike labels others is (draft_after_item labels d i) (draft_after_item others e i) good.1 (step_alike labels others d e i good.0 h)

-- the symbols that resolve jumps of 16 bits are those of the source
pub passes_agree : (source : List ℕ) → symbols_in source ≡ symbols_of_lines (lines_in source)
passes_agree source =
    let labels : List SymbolData = symbols_of_lines (lines_in source) in
    ap (λ (d : DraftData). d.symbols) (lines-items labels (lines_in source) empty_draft)
    ∙ (items_alike labels [] (items_in (lines_in source)) empty_draft empty_draft (source_are source) (alike_same empty_draft)).symbols
    ∙ sym (ap (λ (d : DraftData). d.symbols) (lines-items [] (lines_in source) empty_draft))

-- ---- the first pass
pub sized : (k : ℕ) → option_map_or (λ (row : RowData). cond (is_32_bit_row row) 4 2) (slice_get table_rows k) 0 ≡ assembled_code_size k
unfolding assembled_code_size
sized k = refl

-- zeros instead of bytes
zeros_alike : (d e next : DraftData) (bs : List ℕ) (o : Option ReferenceData) (n : ℕ)
    → next ≡ with_bytes_if_room (with_reference d 0 o) (replicate n 0) → n ≡ length bs → HaveSameSizesAndSymbols d e → HaveSameSizesAndSymbols next (with_content e bs o)
zeros_alike d e next bs o n made same h =
    subst (λ (x : DraftData). HaveSameSizesAndSymbols x (with_content e bs o)) (sym made)
    (bytes_alike (with_reference d 0 o) (with_reference e (length bs) o) (reference_alike d e 0 (length bs) o h) (replicate n 0) bs (length-replicate n 0 ∙ same))

-- a label
pub label_counted : (d e next : DraftData) (name : List ℕ) → next ≡ with_label d name → HaveSameSizesAndSymbols d e → HaveSameSizesAndSymbols next (draft_after_item [] e (label name))
unfolding draft_after_item
label_counted d e next name made h = subst (λ (x : DraftData). HaveSameSizesAndSymbols x (draft_after_item [] e (label name))) (sym made) (label_alike d e h name)

-- a symbol of the first pass, which has no use
pub see_named : (d next : DraftData) (r : ReferenceData) → is_source_name r.name ≡ true → next ≡ record d { symbols = with_name d.symbols r.name } → next ≡ with_reference d 0 (Some r)
unfolding with_reference with_reloc_use
see_named d next r named made =
    let x : DraftData = record d { symbols = with_name d.symbols r.name } in
    made ∙ unused (has_current_section x) (has_room x 0) (is_relocation_kind r.kind) (nat_lt x.count 65535) _ x ∙ sym (ap (λ b. cond b (with_reloc_use x 0 r) d) named)
  where
    unused : (a b e f : Bool) (x y : DraftData) → y ≡ cond (a && b && false && e && f) x y
    unused true true e f x y = refl
    unused true false e f x y = refl
    unused false b e f x y = refl

-- zeros instead of an instruction's bytes
pub code_alike : (d e next : DraftData) (k : ℕ) (f : Fields) (o : Option ReferenceData) (n : ℕ) → IsCodeOfSomeLine k f o
    → next ≡ with_bytes_if_room (with_reference d 0 o) (replicate n 0) → n ≡ assembled_code_size k → HaveSameSizesAndSymbols d e → HaveSameSizesAndSymbols next (draft_after_item [] e (code k f o))
unfolding draft_after_item assembled_code_size
code_alike d e next k f o n is made size h = zeros_alike d e next (code_bytes [] e k f o) o n made (size ∙ as_many) h
  where
    as_many : assembled_code_size k ≡ length (code_bytes [] e k f o)
    as_many = ap (λ (q : Option RowData). option_map_or (λ row. cond (is_32_bit_row row) 4 2) q 0) is.at ∙ sym (code_length [] e k f o is)

-- zeros instead of data
pub data_alike : (d e next : DraftData) (bs : List ℕ) (o : Option ReferenceData) (n : ℕ)
    → next ≡ with_bytes_if_room (with_reference d 0 o) (replicate n 0) → n ≡ length bs → HaveSameSizesAndSymbols d e → HaveSameSizesAndSymbols next (draft_after_item [] e (bytes bs o))
unfolding draft_after_item
data_alike d e next bs o n made same h = zeros_alike d e next bs o n made same h

-- the step of any other item
pub step_counted : (d e next : DraftData) (labels : List SymbolData) (i : ItemData) → IsItemOfSomeLine i → labels ≡ [] → next ≡ draft_after_item labels d i → HaveSameSizesAndSymbols d e → HaveSameSizesAndSymbols next (draft_after_item [] e i)
step_counted d e next labels i good none made h =
    subst (λ (x : DraftData). HaveSameSizesAndSymbols x (draft_after_item [] e i)) (sym (made ∙ ap (λ (ls : List SymbolData). draft_after_item ls d i) none)) (step_alike [] [] d e i good h)

-- a further item
module _ (items : List Item) (i : ℕ) (draft first : DraftData) (so_far : HaveSameSizesAndSymbols draft (fold (draft_after_item []) first (take i (map item_of items)))) where
  pub alike_next : (d : Item) (next : DraftData) → i < length items → ((e : DraftData) → HaveSameSizesAndSymbols draft e → HaveSameSizesAndSymbols next (draft_after_item [] e (item_of (get_or items i d)))) → HaveSameSizesAndSymbols next (fold (draft_after_item []) first (take (i + 1) (map item_of items)))
  alike_next d next within step =
      let there : get_or (map item_of items) i (item_of d) ≡ item_of (get_or items i d) = get_or-map item_of items i d (item_of d) within in
      subst (λ (e : DraftData). HaveSameSizesAndSymbols next e)
      (ap (draft_after_item [] (fold (draft_after_item []) first (take i (map item_of items)))) (sym there) ∙ sym (fold_more (draft_after_item []) first (map item_of items) i (item_of d) (rw (length-map items item_of) within)))
      (step (fold (draft_after_item []) first (take i (map item_of items))) so_far)

  pub alike_end : length items ≤ i → draft.symbols ≡ (fold (draft_after_item []) first (map item_of items)).symbols
  alike_end past = so_far.symbols ∙ ap (λ (is : List ItemData). (fold (draft_after_item []) first is).symbols) (take_all i (map item_of items) (rw (length-map items item_of) past))

-- all items of a source
each_all : (items : List Item) → EachInDraft IsItemOfSomeLine (map item_of items) → (k : ℕ) (d : Item) → k < length items → IsItemOfSomeLine (item_of (get_or items k d))
each_all [] h k d within = absurd (omega arith)
each_all (x ∷ xs) h zero d within = h.0
each_all (x ∷ xs) h (suc k) d within = each_all xs h.1 k d (omega arith)

pub items_all : (source : List ℕ) (items : List Item) → map item_of items ≡ items_in (lines_in source) → All (λ (x : Item). IsItemOfSomeLine (item_of x)) items
items_all source items e = λ k d within. each_all items (subst (EachInDraft IsItemOfSomeLine) (sym e) (source_are source)) k d within
