-- Each item of a source keeps the invariant of drafts.
use Rattle.std.proofs.Common.{◌≡◌, ◌<◌, ◌≤◌, ◌+◌, ◌^◌, ◌++◌, ◌||◌, ◌&&◌, ◌==◌, min, ℕ, Bool, true, false, cond, List, [], ◌∷◌, length, replicate, Option, None, Some, refl, ap, sym, subst, ◌∙◌, arith, length-append, lit<}
use Rattle.std.specs.Prelude.{option_map, find, unwrap_or, is_some, nat_lt, not, fold, codes, if◌then◌else◌}
use Rattle.std.specs.Bool.{then_some}
use Rattle.std.specs.List.{list_any, position_or_len}
use Rattle.std.proofs.lemmas.List.Sums.{sum_by_push}
use Rattle.std.specs.Str.{bytes_eq}
use Rattle.std.proofs.lemmas.List.{length-map, map-append}
use Rattle.std.proofs.lemmas.Bool.{and_parts, ltb-true, leb-true, lt-ltb}
use Rattle.std.proofs.lemmas.Bool.Decides.{Decides-eqb}
use Rattle.tc_object.specs.Names.{object_name_of, is_name_length}
use Rattle.tc_object.specs.Names as object
use Rattle.tc_stmt.specs.Names.{is_source_name}
use Rattle.tc_stmt.specs.Items.{ReferenceData, ItemData, label, section, global, code, bytes, zeros}
use Rattle.tc_asm.specs.declared.symbols.Place.{Place}
use Rattle.tc_asm.specs.declared.symbols.Entry.{Entry}
use Rattle.tc_stmt.specs.Lines.{LineData}
use Rattle.tc_asm.specs.Symbols.{SymbolData, undefined_entry, entry_in, entry_or_undefined, with_symbol_entry, place_in, with_name, with_symbol_label, with_global_symbol, symbol_names}
use Rattle.tc_isa.specs.Relocations.{is_relocation_kind}
use Rattle.tc_asm.specs.Drafts.{UseData, DraftSectionData, DraftData, draft_section, empty_draft, next_byte_offset, has_current_section, has_room, next_byte_place, with_label, section_number, with_current_section, with_global, with_section_bytes, with_bytes_if_room, with_section_use, with_reloc_use, with_reference, with_content, row_fields_with_target, code_bytes, draft_after_item, draft_section_names, draft_section_size_at}
use Rattle.tc_asm.specs.DraftedSources.{draft_after_line}
use Rattle.tc_asm.specs.Rules.{rule_broken_by_label, rule_broken_before_section, rule_broken_by_name, rule_broken_by_symbol_count, rule_broken_by_reloc_count, rule_broken_by_byte_count, rule_broken_by_undefined_global, rule_broken_by_reference, rule_broken_by_content, rule_broken_by_item, rule_broken_by_items, rule_broken_by_line}
use Rattle.tc_asm.specs.DraftInvariants.{is_drafted_name, IsNewDraftName, AreDistinctDraftNames, IsLabelPlace, IsLabelPlaceIfAny, IsUseOfKnownSymbol, IsDraftSection, IsWellFormedDraft}
use Rattle.tc_stmt.proofs.Cases.{by_test}
use Rattle.tc_asm.proofs.ListLaws.{each_weaker, each_push, in_turn_push, among_push, among_last, names_put, each_put, entry_has, known_among, among_known, changed, changed-set, changed-changed, length-changed, names-changed, size-changed, each_changed, count-changed, size-push, size_at-get, spaced_longer, spaced_push, any_first}

-- ---- names
name_is : (bs : List ℕ) → is_source_name bs ≡ true → (is_name_length (length bs) && object.is_object_name bs) ≡ true
unfolding is_source_name
name_is bs h = by (is_name_length (length bs) && object.is_object_name bs) (and_parts (is_some (object_name_of bs)) (not (bytes_eq bs (codes "."))) h).0
  where
    by : (b : Bool) → is_some (then_some b bs) ≡ true → b ≡ true
    by true e = refl
    by false e = cc

is_new : (before : List (List ℕ)) (bs : List ℕ) → is_source_name bs ≡ true → is_drafted_name before bs ≡ false → IsNewDraftName before bs
is_new before bs h none =
    let p = and_parts _ _ (name_is bs h) in
    let q = and_parts _ _ p.0 in
    record { some = leb-true 1 (length bs) q.0; few = leb-true (length bs) 64 q.1; written = p.1; new = none }

same_name : (bs : List ℕ) → bytes_eq bs bs ≡ true
same_name [] = refl
same_name (b ∷ bs) = rw ((Decides-eqb b b).1 refl) (same_name bs)

-- ---- symbols
put_length : (ss : List SymbolData) (name : List ℕ) (e : Entry) → (is_some (entry_in ss name) || nat_lt (length ss) 65535) ≡ true → length ss < 2 ^ 16 → length (with_symbol_entry ss name e) < 2 ^ 16
put_length ss name e room few = by (find (λ (s : SymbolData). bytes_eq name s.name) ss) refl room
  where
    names_length : length (with_symbol_entry ss name e) ≡ length (cond (is_drafted_name (symbol_names ss) name) (symbol_names ss) (symbol_names ss ++ name ∷ []))
    names_length = sym (length-map (with_symbol_entry ss name e) (λ (s : SymbolData). s.name)) ∙ ap length (names_put ss name e)

    old_length : length (symbol_names ss) ≡ length ss
    old_length = length-map ss (λ (s : SymbolData). s.name)

    by : (o : Option SymbolData) → find (λ (s : SymbolData). bytes_eq name s.name) ss ≡ o → (is_some (option_map (λ (s : SymbolData). s.entry) o) || nat_lt (length ss) 65535) ≡ true → length (with_symbol_entry ss name e) < 2 ^ 16
    by (Some s) is r =
        let same : length (with_symbol_entry ss name e) ≡ length (symbol_names ss) = names_length ∙ ap (λ b. length (cond b (symbol_names ss) (symbol_names ss ++ name ∷ []))) (among_known ss name s is) in
        omega (arith, same, old_length)
    by None is r =
        let less : length ss < 65535 = ltb-true (length ss) 65535 r in
        let more : length (with_symbol_entry ss name e) ≡ length (symbol_names ss ++ name ∷ []) = names_length ∙ ap (λ b. length (cond b (symbol_names ss) (symbol_names ss ++ name ∷ []))) (known_among ss name is) in
        omega (arith, more, old_length, length-append (symbol_names ss) (name ∷ []))

put_names : (ss : List SymbolData) (name : List ℕ) (e : Entry) → is_source_name name ≡ true → AreDistinctDraftNames (symbol_names ss) → AreDistinctDraftNames (symbol_names (with_symbol_entry ss name e))
put_names ss name e h names =
    subst (λ (ns : List (List ℕ)). AreDistinctDraftNames ns) (sym (names_put ss name e))
    (by_test (λ (ns : List (List ℕ)). AreDistinctDraftNames ns) (is_drafted_name (symbol_names ss) name) (symbol_names ss) (symbol_names ss ++ name ∷ [])
    (λ a. names) (λ a. in_turn_push IsNewDraftName [] (symbol_names ss) name names (is_new (symbol_names ss) name h a)))

put_mono : (ss : List SymbolData) (name : List ℕ) (e : Entry) (n : List ℕ) → is_drafted_name (symbol_names ss) n ≡ true → is_drafted_name (symbol_names (with_symbol_entry ss name e)) n ≡ true
put_mono ss name e n h =
    ap (λ ns. is_drafted_name ns n) (names_put ss name e)
    ∙ by_test (λ (ns : List (List ℕ)). is_drafted_name ns n ≡ true) (is_drafted_name (symbol_names ss) name) (symbol_names ss) (symbol_names ss ++ name ∷ []) (λ a. h) (λ a. among_push (symbol_names ss) name n h)

pub put_known : (ss : List SymbolData) (name : List ℕ) (e : Entry) → is_drafted_name (symbol_names (with_symbol_entry ss name e)) name ≡ true
put_known ss name e =
    ap (λ ns. is_drafted_name ns name) (names_put ss name e)
    ∙ by_test (λ (ns : List (List ℕ)). is_drafted_name ns name ≡ true) (is_drafted_name (symbol_names ss) name) (symbol_names ss) (symbol_names ss ++ name ∷ []) (λ a. a) (λ a. among_last (symbol_names ss) name (same_name name))

-- a part remains valid with more symbols and more bytes in all sections
IsPart-more : (names more : List (List ℕ)) (total most : ℕ) → ((n : List ℕ) → is_drafted_name names n ≡ true → is_drafted_name more n ≡ true) → total ≤ most → (p : DraftSectionData) → IsDraftSection names total p → IsDraftSection more most p
IsPart-more names more total most mono le p h = record {
  small = let s = h.small in omega arith;
  spaced = h.spaced;
  uses = each_weaker (IsUseOfKnownSymbol names) (IsUseOfKnownSymbol more) (λ u k. record { kind = k.kind; known = mono u.reference.name k.known }) p.uses h.uses;
}

pub IsDraft-put : (d : DraftData) (name : List ℕ) (e : Entry) → IsWellFormedDraft d → is_source_name name ≡ true → (is_some (entry_in d.symbols name) || nat_lt (length d.symbols) 65535) ≡ true → IsLabelPlaceIfAny d.parts e.place
    → IsWellFormedDraft (record d { symbols = with_symbol_entry d.symbols name e })
IsDraft-put d name e h good room placed = record {
  few_parts = h.few_parts;
  few_symbols = put_length d.symbols name e room h.few_symbols;
  few_relocs = h.few_relocs;
  count = h.count;
  total = h.total;
  parts_named = h.parts_named;
  symbols_named = put_names d.symbols name e good h.symbols_named;
  places = each_put (λ (x : Entry). IsLabelPlaceIfAny d.parts x.place) d.symbols name e h.places placed;
  parts = each_weaker _ _ (IsPart-more (symbol_names d.symbols) (symbol_names (with_symbol_entry d.symbols name e)) d.total d.total (put_mono d.symbols name e) (omega arith)) d.parts h.parts;
}

old_placed : (d : DraftData) (name : List ℕ) → IsWellFormedDraft d → IsLabelPlaceIfAny d.parts (entry_or_undefined d.symbols name).place
old_placed d name h = entry_has (λ (x : Entry). IsLabelPlaceIfAny d.parts x.place) d.symbols name undefined_entry h.places tt

-- ---- rules that leave room
room_from : (b : Bool) → 15 ≤ cond b 15 13 → b ≡ true
room_from true h = refl
room_from false h = absurd (omega arith)

section_from : (b : Bool) → 15 ≤ cond b 15 8 → b ≡ true
section_from true h = refl
section_from false h = absurd (omega arith)

min_left : (a b : ℕ) → 15 ≤ min a b → 15 ≤ a
min_left a b h = omega arith

min_right : (a b : ℕ) → 15 ≤ min a b → 15 ≤ b
min_right a b h = omega arith

-- ---- labels, sections, global names
place_is : (d : DraftData) → next_byte_offset d ≡ draft_section_size_at d.parts d.section
unfolding next_byte_offset
place_is d = size_at-get d.parts d.section

IsDraft-label : (d : DraftData) (name : List ℕ) → IsWellFormedDraft d → has_current_section d ≡ true → 15 ≤ rule_broken_by_symbol_count d name → IsWellFormedDraft (with_label d name)
unfolding with_label with_symbol_label
IsDraft-label d name h there room =
    by_test IsWellFormedDraft (is_source_name name) _ d
    (λ b.
    let stands : IsLabelPlace d.parts (next_byte_place d) = record { section = ltb-true d.section (length d.parts) there; offset = let e = place_is d in omega arith } in
    IsDraft-put d name (if is_some (place_in d.symbols name) then entry_or_undefined d.symbols name else record (entry_or_undefined d.symbols name) { place = Some (next_byte_place d) }) h b (room_from _ room)
    (by_test (λ (x : Entry). IsLabelPlaceIfAny d.parts x.place) (is_some (place_in d.symbols name)) (entry_or_undefined d.symbols name) (record (entry_or_undefined d.symbols name) { place = Some (next_byte_place d) })
    (λ _. old_placed d name h) (λ _. stands)))
    (λ b. h)

IsDraft-global : (d : DraftData) (name : List ℕ) → IsWellFormedDraft d → 15 ≤ rule_broken_by_symbol_count d name → IsWellFormedDraft (with_global d name)
unfolding with_global with_global_symbol
IsDraft-global d name h room =
    by_test IsWellFormedDraft (is_source_name name) _ d (λ b. IsDraft-put d name (record (entry_or_undefined d.symbols name) { is_global = true }) h b (room_from _ room) (old_placed d name h)) (λ b. h)

-- labels remain within their sections if sections grow
IsPlace-more : (parts more : List DraftSectionData) → length parts ≤ length more → ((n : ℕ) → draft_section_size_at parts n ≤ draft_section_size_at more n) → (o : Option Place) → IsLabelPlaceIfAny parts o → IsLabelPlaceIfAny more o
IsPlace-more parts more long big None h = tt
IsPlace-more parts more long big (Some p) h = record {
  section = let s = h.section in omega arith;
  offset = let s = h.offset in omega (arith, big p.section);
}

-- a name that no section has
among_names : (parts : List DraftSectionData) (name : List ℕ) → is_drafted_name (draft_section_names parts) name ≡ list_any (λ (p : DraftSectionData). bytes_eq name p.name) parts
among_names [] name = refl
among_names (p ∷ ps) name = ap (λ b. bytes_eq name p.name || b) (among_names ps name)

new_part : (parts : List DraftSectionData) (name : List ℕ) → nat_lt (section_number parts name) (length parts) ≡ false → is_drafted_name (draft_section_names parts) name ≡ false
new_part parts name past = among_names parts name ∙ by (list_any (λ (p : DraftSectionData). bytes_eq name p.name) parts) refl
  where
    by : (b : Bool) → list_any (λ (p : DraftSectionData). bytes_eq name p.name) parts ≡ b → b ≡ false
    by false e = refl
    by true e =
        let less : nat_lt (position_or_len (λ (p : DraftSectionData). bytes_eq name p.name) parts) (length parts) ≡ true = lt-ltb _ _ (any_first (λ (p : DraftSectionData). bytes_eq name p.name) parts e) in
        sym less ∙ ap (λ b. nat_lt (unwrap_or (cond b (Some (position_or_len (λ (p : DraftSectionData). bytes_eq name p.name) parts)) None) (length parts)) (length parts)) (sym less) ∙ past

IsDraft-section : (d : DraftData) (name : List ℕ) → IsWellFormedDraft d → IsWellFormedDraft (with_current_section d name)
unfolding with_current_section
IsDraft-section d name h =
    by_test IsWellFormedDraft (not (is_source_name name)) d _ (λ b. h) (λ b.
    by_test IsWellFormedDraft (nat_lt (section_number d.parts name) (length d.parts)) _ _ (λ old. moved (section_number d.parts name)) (λ past.
    by_test IsWellFormedDraft (nat_lt (length d.parts) 64) _ d (λ room. more (named b) past (ltb-true (length d.parts) 64 room)) (λ full. h)))
  where
    named : not (is_source_name name) ≡ false → is_source_name name ≡ true
    named e = by (is_source_name name) e
      where
        by : (b : Bool) → not b ≡ false → b ≡ true
        by true e = refl
        by false e = cc

    moved : (n : ℕ) → IsWellFormedDraft (record d { section = n })
    moved n = record { few_parts = h.few_parts; few_symbols = h.few_symbols; few_relocs = h.few_relocs; count = h.count; total = h.total; parts_named = h.parts_named; symbols_named = h.symbols_named; places = h.places; parts = h.parts }

    empty : IsDraftSection (symbol_names d.symbols) d.total (draft_section name [] [])
    empty = record { small = omega arith; spaced = omega arith; uses = tt }

    more : is_source_name name ≡ true → nat_lt (section_number d.parts name) (length d.parts) ≡ false → length d.parts < 64 → IsWellFormedDraft (record d { section = length d.parts; parts = d.parts ++ draft_section name [] [] ∷ [] })
    more good past room = record {
      few_parts = omega (arith, length-append d.parts (draft_section name [] [] ∷ []));
      few_symbols = h.few_symbols;
      few_relocs = h.few_relocs;
      count = sum_by_push (λ (p : DraftSectionData). length p.uses) d.parts (draft_section name [] []) ∙ (let c = h.count in omega arith);
      total = h.total;
      parts_named = subst (λ (ns : List (List ℕ)). AreDistinctDraftNames ns) (sym (map-append (λ (p : DraftSectionData). p.name) d.parts (draft_section name [] [] ∷ [])))
          (in_turn_push IsNewDraftName [] (draft_section_names d.parts) name h.parts_named (is_new (draft_section_names d.parts) name good (new_part d.parts name past)));
      symbols_named = h.symbols_named;
      places = each_weaker _ _ (λ (s : SymbolData). IsPlace-more d.parts (d.parts ++ draft_section name [] [] ∷ []) (omega (arith, length-append d.parts (draft_section name [] [] ∷ []))) (size-push d.parts (draft_section name [] [])) s.entry.place) d.symbols h.places;
      parts = each_push (IsDraftSection (symbol_names d.symbols) d.total) d.parts (draft_section name [] []) h.parts empty;
    }

-- ---- bytes, and their use
-- a change of one section: it keeps its name, and has more bytes and perhaps further uses
IsDraft-changed : (d : DraftData) (f : DraftSectionData → DraftSectionData) (total count k : ℕ) → IsWellFormedDraft d → d.section < length d.parts
    → ((p : DraftSectionData) → (f p).name ≡ p.name) → ((p : DraftSectionData) → length p.bytes ≤ length (f p).bytes) → ((p : DraftSectionData) → length (f p).uses ≡ length p.uses + k)
    → d.total ≤ total → total ≤ 2 ^ 24 → count ≡ d.count + k → count < 2 ^ 16
    → ((p : DraftSectionData) → length p.bytes ≡ draft_section_size_at d.parts d.section → IsDraftSection (symbol_names d.symbols) d.total p → IsDraftSection (symbol_names d.symbols) total (f p))
    → IsWellFormedDraft (record d { parts = changed f d.parts d.section; total = total; count = count })
IsDraft-changed d f total count k h less named longer counted grows fits count_is few good = record {
  few_parts = let n = h.few_parts in omega (arith, length-changed f d.parts d.section);
  few_symbols = h.few_symbols;
  few_relocs = few;
  count = count-changed f k counted d.parts d.section less ∙ (let c = h.count in omega arith);
  total = fits;
  parts_named = subst (λ (ns : List (List ℕ)). AreDistinctDraftNames ns) (sym (names-changed f named d.parts d.section)) h.parts_named;
  symbols_named = h.symbols_named;
  places = each_weaker _ _ (λ (s : SymbolData). IsPlace-more d.parts (changed f d.parts d.section) (omega (arith, length-changed f d.parts d.section)) (size-changed f longer d.parts d.section) s.entry.place) d.symbols h.places;
  parts = each_changed (IsDraftSection (symbol_names d.symbols) d.total) (IsDraftSection (symbol_names d.symbols) total) f d.parts d.section
      (IsPart-more (symbol_names d.symbols) (symbol_names d.symbols) d.total total (λ n e. e) grows) good h.parts;
}

IsDraft-bytes : (d : DraftData) (bs : List ℕ) → IsWellFormedDraft d → IsWellFormedDraft (with_bytes_if_room d bs)
unfolding with_bytes_if_room with_section_bytes
IsDraft-bytes d bs h =
    by_test IsWellFormedDraft (has_current_section d && has_room d (length bs)) _ d (λ b.
    let p = and_parts _ _ b in
    let less : d.section < length d.parts = ltb-true d.section (length d.parts) p.0 in
    let room : d.total + length bs ≤ 2 ^ 24 = leb-true (d.total + length bs) (2 ^ 24) p.1 in
    let f : DraftSectionData → DraftSectionData = λ q. record q { bytes = q.bytes ++ bs } in
    subst (λ (ps : List DraftSectionData). IsWellFormedDraft (record d { parts = ps; total = d.total + length bs })) (sym (changed-set f d.parts d.section))
    (IsDraft-changed d f (d.total + length bs) d.count 0 h less (λ q. refl) (λ q. longer q) (λ q. omega arith) (omega arith) room (omega arith) h.few_relocs
    (λ q size k. record { small = small q k; spaced = spaced_longer 0 q.uses (length q.bytes) (length (q.bytes ++ bs)) (longer q) k.spaced; uses = k.uses })))
    (λ b. h)
  where
    longer : (q : DraftSectionData) → length q.bytes ≤ length (q.bytes ++ bs)
    longer q = omega (arith, length-append q.bytes bs)

    small : (q : DraftSectionData) → IsDraftSection (symbol_names d.symbols) d.total q → length (q.bytes ++ bs) ≤ d.total + length bs
    small q k = let s = k.small in omega (arith, length-append q.bytes bs)

-- a relocation and its four bytes
with_bytes-is : (e : DraftData) (bs : List ℕ) → has_current_section e ≡ true → has_room e (length bs) ≡ true
    → with_bytes_if_room e bs ≡ record e { parts = changed (λ q. record q { bytes = q.bytes ++ bs }) e.parts e.section; total = e.total + length bs }
unfolding with_bytes_if_room with_section_bytes
with_bytes-is e bs there room =
    rw (there, room) (ap (λ (ps : List DraftSectionData). with_parts ps) (changed-set (λ q. record q { bytes = q.bytes ++ bs }) e.parts e.section))
  where
    with_parts : List DraftSectionData → DraftData
    with_parts ps = record e { parts = ps; total = e.total + length bs }

module _ (d : DraftData) (bs : List ℕ) (r : ReferenceData) (h : IsWellFormedDraft d) (known : is_drafted_name (symbol_names d.symbols) r.name ≡ true) where
  abbrev added : UseData
  added = record { offset = next_byte_offset d; reference = r }

  abbrev both : DraftSectionData → DraftSectionData
  both q = record q { bytes = q.bytes ++ bs; uses = q.uses ++ record { offset = next_byte_offset d; reference = r } ∷ [] }

  abbrev add : DraftSectionData → DraftSectionData
  add q = record q { uses = q.uses ++ record { offset = next_byte_offset d; reference = r } ∷ [] }

  abbrev grow : DraftSectionData → DraftSectionData
  grow q = record q { bytes = q.bytes ++ bs }

  abbrev with_parts : List DraftSectionData → DraftData
  with_parts ps = record d { parts = ps; total = d.total + length bs; count = d.count + 1 }

  used-changed : with_section_use d.parts d.section added ≡ changed add d.parts d.section
  unfolding with_section_use
  used-changed = changed-set add d.parts d.section

  used_bytes-is : has_current_section d ≡ true → has_room d (length bs) ≡ true
      → with_bytes_if_room (record d { parts = with_section_use d.parts d.section added; count = d.count + 1 }) bs ≡ with_parts (changed both d.parts d.section)
  used_bytes-is there room =
      ap (λ (ps : List DraftSectionData). with_bytes_if_room (record d { parts = ps; count = d.count + 1 }) bs) used-changed
      ∙ with_bytes-is (record d { parts = changed add d.parts d.section; count = d.count + 1 }) bs (ap (λ n. nat_lt d.section n) (length-changed add d.parts d.section) ∙ there) room
      ∙ ap with_parts (changed-changed add grow d.parts d.section)

  use_kept : has_current_section d ≡ true → has_room d (length bs) ≡ true → length bs ≡ 4 → is_relocation_kind r.kind ≡ true → d.count < 65535 → IsWellFormedDraft (with_parts (changed both d.parts d.section))
  use_kept there room four kind few =
      let less : d.section < length d.parts = ltb-true d.section (length d.parts) there in
      let fits : d.total + length bs ≤ 2 ^ 24 = leb-true (d.total + length bs) (2 ^ 24) room in
      IsDraft-changed d both (d.total + length bs) (d.count + 1) 1 h less (λ q. refl) longer more (omega arith) fits (omega arith) (omega arith) good
    where
      longer : (q : DraftSectionData) → length q.bytes ≤ length (q.bytes ++ bs)
      longer q = omega (arith, length-append q.bytes bs)

      more : (q : DraftSectionData) → length (q.uses ++ added ∷ []) ≡ length q.uses + 1
      more q = length-append q.uses (added ∷ [])

      good : (q : DraftSectionData) → length q.bytes ≡ draft_section_size_at d.parts d.section → IsDraftSection (symbol_names d.symbols) d.total q → IsDraftSection (symbol_names d.symbols) (d.total + length bs) (both q)
      good q size k =
          let place = place_is d in
          let long = length-append q.bytes bs in
          let low = k.small in
          record {
            small = omega arith;
            spaced = spaced_push 0 q.uses (length q.bytes) (length (q.bytes ++ bs)) added (omega arith) (omega arith) k.spaced;
            uses = each_push (IsUseOfKnownSymbol (symbol_names d.symbols)) q.uses added k.uses (record { kind = kind; known = known });
          }

  IsDraft-use : IsWellFormedDraft (with_bytes_if_room (with_reloc_use d (length bs) r) bs)
  unfolding with_reloc_use
  IsDraft-use =
      by_test (λ (e : DraftData). IsWellFormedDraft (with_bytes_if_room e bs)) (has_current_section d && has_room d (length bs) && length bs == 4 && is_relocation_kind r.kind && nat_lt d.count 65535)
      (record d { parts = with_section_use d.parts d.section added; count = d.count + 1 }) d
      (λ b.
      let p4 = and_parts _ _ b in let p3 = and_parts _ _ p4.0 in let p2 = and_parts _ _ p3.0 in let p1 = and_parts _ _ p2.0 in
      subst IsWellFormedDraft (sym (used_bytes-is p1.0 p1.1)) (use_kept p1.0 p1.1 ((Decides-eqb (length bs) 4).0 p2.1) p3.1 (ltb-true d.count 65535 p4.1)))
      (λ b. IsDraft-bytes d bs h)

-- ---- an item, a line
IsDraft-content : (d : DraftData) (bs : List ℕ) (o : Option ReferenceData) → IsWellFormedDraft d → 15 ≤ rule_broken_by_reference d o → IsWellFormedDraft (with_content d bs o)
unfolding with_reference with_name
IsDraft-content d bs None h room = IsDraft-bytes d bs h
IsDraft-content d bs (Some r) h room =
    by_test (λ (e : DraftData). IsWellFormedDraft (with_bytes_if_room e bs)) (is_source_name r.name) (with_reloc_use (record d { symbols = with_symbol_entry d.symbols r.name (entry_or_undefined d.symbols r.name) }) (length bs) r) d
    (λ b. IsDraft-use (record d { symbols = with_symbol_entry d.symbols r.name (entry_or_undefined d.symbols r.name) }) bs r
    (IsDraft-put d r.name (entry_or_undefined d.symbols r.name) h b (room_from _ (min_left (rule_broken_by_symbol_count d r.name) (rule_broken_by_reloc_count d r) room)) (old_placed d r.name h))
    (put_known d.symbols r.name (entry_or_undefined d.symbols r.name)))
    (λ b. IsDraft-bytes d bs h)

content_room : (d : DraftData) (n : ℕ) (o : Option ReferenceData) → 15 ≤ rule_broken_by_content d n o → 15 ≤ rule_broken_by_reference d o
content_room d n o h = min_right (rule_broken_by_byte_count d n) (rule_broken_by_reference d o) (min_right (rule_broken_before_section d) (min (rule_broken_by_byte_count d n) (rule_broken_by_reference d o)) h)

pub IsDraft-stepped : (labels : List SymbolData) (d : DraftData) (i : ItemData) → IsWellFormedDraft d → 15 ≤ rule_broken_by_item labels d i → IsWellFormedDraft (draft_after_item labels d i)
unfolding draft_after_item rule_broken_by_item
IsDraft-stepped labels d (label name) h rule =
    IsDraft-label d name h (section_from (has_current_section d) (min_right (rule_broken_by_label d name) (rule_broken_before_section d) (min_left (min (rule_broken_by_label d name) (rule_broken_before_section d)) (min (rule_broken_by_name name) (rule_broken_by_symbol_count d name)) rule))) (min_right (rule_broken_by_name name) (rule_broken_by_symbol_count d name) (min_right (min (rule_broken_by_label d name) (rule_broken_before_section d)) (min (rule_broken_by_name name) (rule_broken_by_symbol_count d name)) rule))
IsDraft-stepped labels d (section name) h rule = IsDraft-section d name h
IsDraft-stepped labels d (global name) h rule =
    IsDraft-global d name h (min_left (rule_broken_by_symbol_count d name) (rule_broken_by_undefined_global labels name) (min_right (rule_broken_by_name name) (min (rule_broken_by_symbol_count d name) (rule_broken_by_undefined_global labels name)) rule))
IsDraft-stepped labels d (code k f r) h rule =
    IsDraft-content d (code_bytes labels d k f r) r h (content_room d (length (code_bytes labels d k f r)) r (min_right (row_fields_with_target labels d k f r).rule (rule_broken_by_content d (length (code_bytes labels d k f r)) r) rule))
IsDraft-stepped labels d (bytes bs r) h rule = IsDraft-content d bs r h (content_room d (length bs) r rule)
IsDraft-stepped labels d (zeros n) h rule = IsDraft-bytes d (replicate n 0) h

IsDraft-items : (labels : List SymbolData) (d : DraftData) (is : List ItemData) → IsWellFormedDraft d → 15 ≤ rule_broken_by_items labels d is → IsWellFormedDraft (fold (draft_after_item labels) d is)
IsDraft-items labels d [] h rule = h
IsDraft-items labels d (i ∷ is) h rule =
    IsDraft-items labels (draft_after_item labels d i) is
    (IsDraft-stepped labels d i h (min_left (rule_broken_by_item labels d i) (rule_broken_by_items labels (draft_after_item labels d i) is) rule))
    (min_right (rule_broken_by_item labels d i) (rule_broken_by_items labels (draft_after_item labels d i) is) rule)

pub IsDraft-line : (labels : List SymbolData) (d : DraftData) (l : LineData) → IsWellFormedDraft d → rule_broken_by_line labels d l ≡ 15 → IsWellFormedDraft (draft_after_line labels d l)
unfolding draft_after_line rule_broken_by_line
IsDraft-line labels d l h rule = IsDraft-items labels d l.items h (min_right l.rule (rule_broken_by_items labels d l.items) (omega arith))

pub IsDraft-start : IsWellFormedDraft empty_draft
IsDraft-start = record { few_parts = omega arith; few_symbols = lit< tt; few_relocs = lit< tt; count = refl; total = omega arith; parts_named = tt; symbols_named = tt; places = tt; parts = tt }

pub IsDraft-more : (labels : List SymbolData) (d next : DraftData) (l : LineData) (rule : ℕ) → IsWellFormedDraft d → next ≡ draft_after_line labels d l → rule ≡ rule_broken_by_line labels d l → rule ≡ 15 → IsWellFormedDraft next
IsDraft-more labels d next l rule h e is none = subst (λ (x : DraftData). IsWellFormedDraft x) (sym e) (IsDraft-line labels d l h (sym is ∙ none))
