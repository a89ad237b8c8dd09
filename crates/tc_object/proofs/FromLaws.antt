-- What is read keeps the limits of objects, and the bytes are its spelling.
use Rattle.std.proofs.Common.{◌≡◌, ℕ, ◌+◌, ◌<◌, ◌≤◌, ◌^◌, List, [], ◌∷◌, ◌++◌, length, get_or, take, Bool, true, false, not, Result, Ok, refl, sym, ap, ◌∙◌, subst, arith, append_assoc, length-append, leb, ltb, eqb, ◌&&◌}
use Rattle.std.proofs.lemmas.Bool.{leb-true, ltb-true, eqb-true, and_parts}
use Rattle.std.proofs.lemmas.List.{append-nil, length-take-le}
use Rattle.std.proofs.Math.Seq.{drop-append_seam}
use Rattle.std.specs.List.{flat_map}
use Rattle.tcd_base.specs.declared.errors.FormErr.{FormErr}
use Rattle.tcd_base.specs.Bytes.{bytes_of_half, bytes_of_word}
use Rattle.tcd_base.specs.Place.{Place, place_between}
use Rattle.tcd_base.specs.FieldReaders.{◌>>=◌, u8_at, u16_at, u32_at, field_bytes_at, many_fields_at}
use Rattle.tcd_base.proofs.FieldReads.{bytes_at_ok, bind_ok}
use Rattle.tc_object.specs.declared.relocs.Reloc.{Reloc}
use Rattle.tc_object.specs.Names.{IsNewObjectName, is_name_length, is_object_name}
use Rattle.tc_object.specs.Objects.{SectionData, SymbolData, ObjectData, AllInTurn, IsSection, IsSymbol, IsReloc, IsObject, is_section_name, is_symbol_name, is_valid_symbol_section, is_valid_symbol_offset, last_reloc, is_after_last_reloc, section_size_at}
use Rattle.tc_object.specs.Grammar.{is_reloc_section_ordered, checked_object_field, name_length_at, name_bytes_at, new_object_name_at, new_section_at, section_with_new_name, kind_at, symbol_section_at, symbol_offset_at, new_symbol_at, symbol_with_new_name, symbol_after_name, reloc_section_at, reloc_offset_at, reloc_symbol_at, next_reloc_at, magic_at, section_count_at, object_contents_at, object_at, object_of}
use Rattle.tc_object.specs.Spelling.{bytes_of_name, bytes_of_section, bytes_of_symbol, bytes_of_reloc, bytes_of_header, bytes_of_object}
use Rattle.tcd_base.proofs.PassedLaws.{AreBytes, bytes_from, Passed, passed_bytes, passed_both, ok_pair, passed_test, took_passed, byte_passed, half_passed, word_passed, many_passed}

-- the next reading starts after the part
next : {A : Type 0} {part front rest : List ℕ} {q : Place} (read : Place → Result A FormErr) (y : Result A FormErr) (h : Passed part front rest q) → read q ≡ y → read (place_between (front ++ part) h.after) ≡ y
next read y h e = ap read (sym h.at) ∙ e

-- equal parts end at equal places
passed_as : {a b front rest : List ℕ} {p q : Place} → a ≡ b → p ≡ q → Passed a front rest p → Passed b front rest q
passed_as {a} {b} {front} {rest} {p} {q} e f h = subst (λ (r : Place). Passed b front rest r) f (subst (λ (l : List ℕ). Passed l front rest p) e h)

-- if items have a property in turn, so does the list with the next item
pub turn_push : {A : Type 0} (good : List A → A → Type 0) (before xs : List A) (x : A) → AllInTurn good before xs → good (before ++ xs) x → AllInTurn good before (xs ++ x ∷ [])
turn_push good before [] x h g = (subst (λ (l : List _). good l x) (append-nil before) g, tt)
turn_push good before (y ∷ ys) x h g = (h.0, turn_push good (before ++ y ∷ []) ys x h.1 (subst (λ (l : List _). good l x) (sym (append_assoc before (y ∷ []) ys)) g))

-- ---- fields
-- n bytes are read unchanged
bytes_passed : (n : ℕ) (front rest xs : List ℕ) (q : Place) → field_bytes_at n (place_between front rest) ≡ Ok (xs, q) → Passed xs front rest q × (length xs ≡ n)
bytes_passed n front rest xs q e =
    let t = bytes_at_ok n (place_between front rest) xs q e in
    let same : xs ≡ take n rest = t.1 ∙ ap (take n) (drop-append_seam front rest) in
    let within : n ≤ length rest = omega (arith, t.0.within, length-append front rest) in
    (passed_as (sym same) refl (took_passed n front rest q t.0), ap length same ∙ length-take-le n rest within)

-- a byte, two and four bytes that passed a test
tested_byte : (kind : ℕ) (good : ℕ → Bool) (front rest : List ℕ) (x : ℕ) (q : Place) → AreBytes rest → (u8_at (place_between front rest) >>= λ v. checked_object_field kind (good v.0) (place_between front rest) v) ≡ Ok (x, q) → Passed (x ∷ []) front rest q × (good x ≡ true)
tested_byte kind good front rest x q bytes e =
    let b = bind_ok (u8_at (place_between front rest)) _ _ e in
    let t = passed_test (good b.0.0) b.0 (x, q) _ b.2 in
    ((byte_passed front rest x q bytes (b.1 ∙ ap (λ (v : ℕ × Place). Ok v) t.1)).0, subst (λ (v : ℕ × Place). good v.0 ≡ true) t.1 t.0)

tested_half : (kind : ℕ) (good : ℕ → Bool) (front rest : List ℕ) (x : ℕ) (q : Place) → AreBytes rest → (u16_at (place_between front rest) >>= λ v. checked_object_field kind (good v.0) (place_between front rest) v) ≡ Ok (x, q) → Passed (bytes_of_half x) front rest q × (x < 2 ^ 16) × (good x ≡ true)
tested_half kind good front rest x q bytes e =
    let b = bind_ok (u16_at (place_between front rest)) _ _ e in
    let t = passed_test (good b.0.0) b.0 (x, q) _ b.2 in
    let h = half_passed front rest x q bytes (b.1 ∙ ap (λ (v : ℕ × Place). Ok v) t.1) in
    (h.0, h.1, subst (λ (v : ℕ × Place). good v.0 ≡ true) t.1 t.0)

tested_word : (kind : ℕ) (good : ℕ → Bool) (front rest : List ℕ) (x : ℕ) (q : Place) → AreBytes rest → (u32_at (place_between front rest) >>= λ v. checked_object_field kind (good v.0) (place_between front rest) v) ≡ Ok (x, q) → Passed (bytes_of_word x) front rest q × (x < 2 ^ 32) × (good x ≡ true)
tested_word kind good front rest x q bytes e =
    let b = bind_ok (u32_at (place_between front rest)) _ _ e in
    let t = passed_test (good b.0.0) b.0 (x, q) _ b.2 in
    let h = word_passed front rest x q bytes (b.1 ∙ ap (λ (v : ℕ × Place). Ok v) t.1) in
    (h.0, h.1, subst (λ (v : ℕ × Place). good v.0 ≡ true) t.1 t.0)

-- ---- names
name_bytes : (name : List ℕ) → length name ∷ name ≡ bytes_of_name name
unfolding bytes_of_name
name_bytes name = refl

not_true : (b : Bool) → not b ≡ true → b ≡ false
not_true true h = sym h
not_true false h = refl

name_passed : (is_used : List ℕ → Bool) (front rest name : List ℕ) (q : Place) → AreBytes rest → new_object_name_at is_used (place_between front rest) ≡ Ok (name, q) → Passed (bytes_of_name name) front rest q × IsNewObjectName is_used name
unfolding new_object_name_at name_length_at name_bytes_at
name_passed is_used front rest name q bytes e =
    let count = bind_ok (name_length_at (place_between front rest)) _ _ e in
    let n : ℕ = count.0.0 in
    let h1 = tested_byte 4 is_name_length front rest n count.0.1 bytes count.1 in
    let limits = and_parts (leb 1 n) (leb n 64) h1.1 in
    let read = bind_ok (name_bytes_at n count.0.1) _ _ count.2 in
    let raw = bind_ok (field_bytes_at n count.0.1) _ _ read.1 in
    let t1 = passed_test (is_object_name raw.0.0) raw.0 read.0 _ raw.2 in
    let t2 = passed_test (not (is_used read.0.0)) read.0 (name, q) _ read.2 in
    let same = ok_pair raw.0.0 name raw.0.1 q (ap (λ (v : List ℕ × Place). Ok v) (t1.1 ∙ t2.1)) in
    let h2 = bytes_passed n (front ++ n ∷ []) h1.0.after raw.0.0 raw.0.1 (next (field_bytes_at n) _ h1.0 raw.1) in
    let len : length name ≡ n = ap length (sym same.0) ∙ h2.1 in
    let some : 1 ≤ n = leb-true _ _ limits.0 in
    let few : n ≤ 64 = leb-true _ _ limits.1 in (
      passed_as (ap (λ (l : List ℕ). n ∷ l) same.0 ∙ ap (λ k. k ∷ name) (sym len) ∙ name_bytes name) same.1 (passed_both h1.0 h2.0),
      record {
        some = omega arith;
        few = omega arith;
        written = ap is_object_name (sym same.0) ∙ t1.0;
        new = not_true _ (ap (λ (v : List ℕ × Place). not (is_used v.0)) (sym t2.1) ∙ t2.0);
      },
    )

-- ---- sections
section_bytes : (s : SectionData) → bytes_of_name s.name ++ (bytes_of_word (length s.bytes) ++ s.bytes) ≡ bytes_of_section s
unfolding bytes_of_section
section_bytes s = refl

section_passed : (before : List SectionData) (front rest : List ℕ) (s : SectionData) (q : Place) → AreBytes rest → AllInTurn IsSection [] before → new_section_at before (place_between front rest) ≡ Ok (s, q)
    → Passed (bytes_of_section s) front rest q × AllInTurn IsSection [] (before ++ s ∷ [])
unfolding new_section_at section_with_new_name
section_passed before front rest s q bytes good e =
    let name = bind_ok (new_object_name_at (is_section_name before) (place_between front rest)) _ _ e in
    let h1 = name_passed (is_section_name before) front rest name.0.0 name.0.1 bytes name.1 in
    let b1 = passed_bytes h1.0 bytes in
    let len = bind_ok (u32_at name.0.1) _ _ name.2 in
    let h2 = word_passed _ h1.0.after len.0.0 len.0.1 b1 (next u32_at _ h1.0 len.1) in
    let part = bind_ok (field_bytes_at len.0.0 len.0.1) _ _ len.2 in
    let h3 = bytes_passed len.0.0 _ h2.0.after part.0.0 part.0.1 (next (field_bytes_at len.0.0) _ h2.0 part.1) in
    let made : SectionData = record { name = name.0.0; bytes = part.0.0 } in
    let f = ok_pair made s part.0.1 q part.2 in
    let spelled : bytes_of_name made.name ++ (bytes_of_word len.0.0 ++ made.bytes) ≡ bytes_of_section s = ap (λ n. bytes_of_name made.name ++ (bytes_of_word n ++ made.bytes)) (sym h3.1) ∙ section_bytes made ∙ ap bytes_of_section f.0 in (
      passed_as spelled f.1 (passed_both h1.0 (passed_both h2.0 h3.0)),
      turn_push IsSection [] before s good (subst (IsSection before) f.0 (record { name = h1.1; small = omega (arith, h2.1, h3.1) })),
    )

-- ---- symbols
kind_passed : (low high : ℕ) (front rest : List ℕ) (kind : ℕ) (q : Place) → AreBytes rest → kind_at low high (place_between front rest) ≡ Ok (kind, q) → Passed (kind ∷ []) front rest q × (low ≤ kind) × (kind ≤ high)
unfolding kind_at
kind_passed low high front rest kind q bytes e =
    let h = tested_byte 4 (λ k. leb low k && leb k high) front rest kind q bytes e in
    let limits = and_parts (leb low kind) (leb kind high) h.1 in
    (h.0, leb-true _ _ limits.0, leb-true _ _ limits.1)

symbol_bytes : (s : SymbolData) → bytes_of_name s.name ++ (s.kind ∷ bytes_of_half s.section ++ bytes_of_word s.offset) ≡ bytes_of_symbol s
unfolding bytes_of_symbol
symbol_bytes s = refl

symbol_passed : (sections : List SectionData) (before : List SymbolData) (front rest : List ℕ) (s : SymbolData) (q : Place) → AreBytes rest → AllInTurn (IsSymbol sections) [] before → new_symbol_at sections before (place_between front rest) ≡ Ok (s, q)
    → Passed (bytes_of_symbol s) front rest q × AllInTurn (IsSymbol sections) [] (before ++ s ∷ [])
unfolding new_symbol_at symbol_with_new_name symbol_after_name symbol_section_at symbol_offset_at
symbol_passed sections before front rest s q bytes good e =
    let name = bind_ok (new_object_name_at (is_symbol_name before) (place_between front rest)) _ _ e in
    let h1 = name_passed (is_symbol_name before) front rest name.0.0 name.0.1 bytes name.1 in
    let b1 = passed_bytes h1.0 bytes in
    let kind = bind_ok (kind_at 0 2 name.0.1) _ _ name.2 in
    let h2 = kind_passed 0 2 _ h1.0.after kind.0.0 kind.0.1 b1 (next (kind_at 0 2) _ h1.0 kind.1) in
    let b2 = passed_bytes h2.0 b1 in
    let section = bind_ok (symbol_section_at sections kind.0.0 kind.0.1) _ _ kind.2 in
    let h3 = tested_half 4 (is_valid_symbol_section sections kind.0.0) _ h2.0.after section.0.0 section.0.1 b2 (next (symbol_section_at sections kind.0.0) _ h2.0 section.1) in
    let b3 = passed_bytes h3.0 b2 in
    let offset = bind_ok (symbol_offset_at sections kind.0.0 section.0.0 section.0.1) _ _ section.2 in
    let h4 = tested_word 4 (is_valid_symbol_offset sections kind.0.0 section.0.0) _ h3.0.after offset.0.0 offset.0.1 b3 (next (symbol_offset_at sections kind.0.0 section.0.0) _ h3.0 offset.1) in
    let made : SymbolData = record { name = name.0.0; kind = kind.0.0; section = section.0.0; offset = offset.0.0 } in
    let f = ok_pair made s offset.0.1 q offset.2 in (
      passed_as (symbol_bytes made ∙ ap bytes_of_symbol f.0) f.1 (passed_both h1.0 (passed_both h2.0 (passed_both h3.0 h4.0))),
      turn_push (IsSymbol sections) [] before s good (subst (IsSymbol sections before) f.0 (record { name = h1.1; kind = h2.2; section = h3.2; offset = h4.2; half = h3.1; word = h4.1 })),
    )

-- ---- relocations
reloc_bytes : (r : Reloc) → bytes_of_half r.section ++ (bytes_of_word r.offset ++ (r.kind ∷ bytes_of_half r.symbol ++ bytes_of_word r.addend)) ≡ bytes_of_reloc r
unfolding bytes_of_reloc
reloc_bytes r = refl

reloc_section_passed : (sections : List SectionData) (before : List Reloc) (front rest : List ℕ) (x : ℕ) (q : Place) → AreBytes rest → reloc_section_at sections before (place_between front rest) ≡ Ok (x, q) → Passed (bytes_of_half x) front rest q × (x < 2 ^ 16) × (x < length sections)
unfolding reloc_section_at
reloc_section_passed sections before front rest x q bytes e =
    let b = bind_ok (u16_at (place_between front rest)) _ _ e in
    let c = bind_ok (checked_object_field 3 (is_reloc_section_ordered (last_reloc before) b.0.0) (place_between front rest) b.0) _ _ b.2 in
    let t1 = passed_test (is_reloc_section_ordered (last_reloc before) b.0.0) b.0 c.0 _ c.1 in
    let t2 = passed_test (ltb c.0.0 (length sections)) c.0 (x, q) _ c.2 in
    let h = half_passed front rest x q bytes (b.1 ∙ ap (λ (v : ℕ × Place). Ok v) (t1.1 ∙ t2.1)) in
    (h.0, h.1, ltb-true _ _ (subst (λ (v : ℕ × Place). ltb v.0 (length sections) ≡ true) t2.1 t2.0))

reloc_offset_passed : (sections : List SectionData) (before : List Reloc) (section : ℕ) (start : Place) (front rest : List ℕ) (x : ℕ) (q : Place) → AreBytes rest → reloc_offset_at sections before section start (place_between front rest) ≡ Ok (x, q)
    → Passed (bytes_of_word x) front rest q × (x < 2 ^ 32) × (is_after_last_reloc (last_reloc before) section x ≡ true) × (x + 4 ≤ section_size_at sections section)
unfolding reloc_offset_at
reloc_offset_passed sections before section start front rest x q bytes e =
    let b = bind_ok (u32_at (place_between front rest)) _ _ e in
    let c = bind_ok (checked_object_field 3 (is_after_last_reloc (last_reloc before) section b.0.0) start b.0) _ _ b.2 in
    let t1 = passed_test (is_after_last_reloc (last_reloc before) section b.0.0) b.0 c.0 _ c.1 in
    let t2 = passed_test (leb (c.0.0 + 4) (section_size_at sections section)) c.0 (x, q) _ c.2 in
    let h = word_passed front rest x q bytes (b.1 ∙ ap (λ (v : ℕ × Place). Ok v) (t1.1 ∙ t2.1)) in (
      h.0,
      h.1,
      subst (λ (v : ℕ × Place). is_after_last_reloc (last_reloc before) section v.0 ≡ true) (t1.1 ∙ t2.1) t1.0,
      leb-true _ _ (subst (λ (v : ℕ × Place). leb (v.0 + 4) (section_size_at sections section) ≡ true) t2.1 t2.0),
    )

reloc_passed : (sections : List SectionData) (symbols : ℕ) (before : List Reloc) (front rest : List ℕ) (r : Reloc) (q : Place) → AreBytes rest → AllInTurn (IsReloc sections symbols) [] before → next_reloc_at sections symbols before (place_between front rest) ≡ Ok (r, q)
    → Passed (bytes_of_reloc r) front rest q × AllInTurn (IsReloc sections symbols) [] (before ++ r ∷ [])
unfolding next_reloc_at reloc_symbol_at
reloc_passed sections symbols before front rest r q bytes good e =
    let section = bind_ok (reloc_section_at sections before (place_between front rest)) _ _ e in
    let h1 = reloc_section_passed sections before front rest section.0.0 section.0.1 bytes section.1 in
    let b1 = passed_bytes h1.0 bytes in
    let offset = bind_ok (reloc_offset_at sections before section.0.0 (place_between front rest) section.0.1) _ _ section.2 in
    let h2 = reloc_offset_passed sections before section.0.0 (place_between front rest) _ h1.0.after offset.0.0 offset.0.1 b1 (next (reloc_offset_at sections before section.0.0 (place_between front rest)) _ h1.0 offset.1) in
    let b2 = passed_bytes h2.0 b1 in
    let kind = bind_ok (kind_at 1 7 offset.0.1) _ _ offset.2 in
    let h3 = kind_passed 1 7 _ h2.0.after kind.0.0 kind.0.1 b2 (next (kind_at 1 7) _ h2.0 kind.1) in
    let b3 = passed_bytes h3.0 b2 in
    let symbol = bind_ok (reloc_symbol_at symbols kind.0.1) _ _ kind.2 in
    let h4 = tested_half 4 (λ s. ltb s symbols) _ h3.0.after symbol.0.0 symbol.0.1 b3 (next (reloc_symbol_at symbols) _ h3.0 symbol.1) in
    let b4 = passed_bytes h4.0 b3 in
    let addend = bind_ok (u32_at symbol.0.1) _ _ symbol.2 in
    let h5 = word_passed _ h4.0.after addend.0.0 addend.0.1 b4 (next u32_at _ h4.0 addend.1) in
    let made : Reloc = record { section = section.0.0; offset = offset.0.0; kind = kind.0.0; symbol = symbol.0.0; addend = addend.0.0 } in
    let f = ok_pair made r addend.0.1 q addend.2 in
    let is : IsReloc sections symbols before made =
    record { section = h1.2; behind = h2.2; room = h2.3; some = h3.1; kind = h3.2; symbol = ltb-true _ _ h4.2; half = h1.1; word = h2.1; addend = h5.1 } in (
      passed_as (reloc_bytes made ∙ ap bytes_of_reloc f.0) f.1 (passed_both h1.0 (passed_both h2.0 (passed_both h3.0 (passed_both h4.0 h5.0)))),
      turn_push (IsReloc sections symbols) [] before r good (subst (IsReloc sections symbols before) f.0 is),
    )

-- ---- objects
-- many items, from an empty list on
all_passed : {A : Type 0} (item : List A → Place → Result (A × Place) FormErr) (spell : A → List ℕ) (Good : List A → Type 0)
    → ((before : List A) (front rest : List ℕ) (x : A) (q : Place) → AreBytes rest → Good before → item before (place_between front rest) ≡ Ok (x, q) → Passed (spell x) front rest q × Good (before ++ x ∷ []))
    → (n : ℕ) (xs : List A) (front rest : List ℕ) (q : Place) → AreBytes rest → Good [] → many_fields_at item n [] (place_between front rest) ≡ Ok (xs, q) → Passed (flat_map spell xs) front rest q × (n ≡ length xs) × Good xs
all_passed item spell Good each n xs front rest q bytes good e =
    let m = many_passed item spell Good each n [] xs front rest q bytes good e in
    (passed_as (ap (flat_map spell) (sym m.is)) refl m.passed, sym (ap length m.is ∙ m.count), m.good)

-- the items of an object, and how many there are
record ArePartsOf (o : ObjectData) (n m k : ℕ) (front rest : List ℕ) (q : Place) : Type 0 where
  pub sections_n : n ≡ length o.sections
  pub symbols_n : m ≡ length o.symbols
  pub relocs_n : k ≡ length o.relocs
  pub sections : AllInTurn IsSection [] o.sections
  pub symbols : AllInTurn (IsSymbol o.sections) [] o.symbols
  pub relocs : AllInTurn (IsReloc o.sections m) [] o.relocs
  pub passed : Passed (flat_map bytes_of_section o.sections ++ (flat_map bytes_of_symbol o.symbols ++ flat_map bytes_of_reloc o.relocs)) front rest q

parts_passed : (n m k : ℕ) (front rest : List ℕ) (o : ObjectData) (q : Place) → AreBytes rest → object_contents_at n m k (place_between front rest) ≡ Ok (o, q) → ArePartsOf o n m k front rest q
unfolding object_contents_at
parts_passed n m k front rest o q bytes e =
    let sections = bind_ok (many_fields_at new_section_at n [] (place_between front rest)) _ _ e in
    let h1 = all_passed new_section_at bytes_of_section (AllInTurn IsSection []) section_passed n sections.0.0 front rest sections.0.1 bytes tt sections.1 in
    let b1 = passed_bytes h1.0 bytes in
    let symbols = bind_ok (many_fields_at (new_symbol_at sections.0.0) m [] sections.0.1) _ _ sections.2 in
    let h2 = all_passed (new_symbol_at sections.0.0) bytes_of_symbol (AllInTurn (IsSymbol sections.0.0) []) (symbol_passed sections.0.0) m symbols.0.0 _ h1.0.after symbols.0.1 b1 tt (next (many_fields_at (new_symbol_at sections.0.0) m []) _ h1.0 symbols.1) in
    let b2 = passed_bytes h2.0 b1 in
    let relocs = bind_ok (many_fields_at (next_reloc_at sections.0.0 m) k [] symbols.0.1) _ _ symbols.2 in
    let h3 = all_passed (next_reloc_at sections.0.0 m) bytes_of_reloc (AllInTurn (IsReloc sections.0.0 m) []) (reloc_passed sections.0.0 m) k relocs.0.0 _ h2.0.after relocs.0.1 b2 tt (next (many_fields_at (next_reloc_at sections.0.0 m) k []) _ h2.0 relocs.1) in
    let made : ObjectData = record { sections = sections.0.0; symbols = symbols.0.0; relocs = relocs.0.0 } in
    let f = ok_pair made o relocs.0.1 q relocs.2 in
    subst (λ (r : Place). ArePartsOf o n m k front rest r) f.1 (subst (λ (x : ObjectData). ArePartsOf x n m k front rest relocs.0.1) f.0 (record {
      sections_n = h1.1;
      symbols_n = h2.1;
      relocs_n = h3.1;
      sections = h1.2;
      symbols = h2.2;
      relocs = h3.2;
      passed = passed_both h1.0 (passed_both h2.0 h3.0);
    }))

-- the spelling, with its numbers as they were read
header_bytes : (o : ObjectData) (magic n m k : ℕ) (parts : List ℕ) → parts ≡ flat_map bytes_of_section o.sections ++ (flat_map bytes_of_symbol o.symbols ++ flat_map bytes_of_reloc o.relocs)
    → magic ≡ 0x314F4354 → n ≡ length o.sections → m ≡ length o.symbols → k ≡ length o.relocs → bytes_of_word magic ++ (bytes_of_half n ++ (bytes_of_half m ++ (bytes_of_half k ++ parts))) ≡ bytes_of_object o
unfolding bytes_of_object bytes_of_header
header_bytes o magic n m k parts p e a b c = rw (p, e, a, b, c) refl

object_passed : (front rest : List ℕ) (o : ObjectData) (q : Place) → AreBytes rest → object_at (place_between front rest) ≡ Ok (o, q) → Passed (bytes_of_object o) front rest q × IsObject o
unfolding object_at magic_at section_count_at
object_passed front rest o q bytes e =
    let magic = bind_ok (magic_at (place_between front rest)) _ _ e in
    let h1 = tested_word 2 (λ m. eqb m 0x314F4354) front rest magic.0.0 magic.0.1 bytes magic.1 in
    let b1 = passed_bytes h1.0 bytes in
    let n = bind_ok (section_count_at magic.0.1) _ _ magic.2 in
    let h2 = tested_half 5 (λ n. leb n 64) _ h1.0.after n.0.0 n.0.1 b1 (next section_count_at _ h1.0 n.1) in
    let b2 = passed_bytes h2.0 b1 in
    let m = bind_ok (u16_at n.0.1) _ _ n.2 in
    let h3 = half_passed _ h2.0.after m.0.0 m.0.1 b2 (next u16_at _ h2.0 m.1) in
    let b3 = passed_bytes h3.0 b2 in
    let k = bind_ok (u16_at m.0.1) _ _ m.2 in
    let h4 = half_passed _ h3.0.after k.0.0 k.0.1 b3 (next u16_at _ h3.0 k.1) in
    let h5 = parts_passed n.0.0 m.0.0 k.0.0 _ h4.0.after o q (passed_bytes h4.0 b3) (next (object_contents_at n.0.0 m.0.0 k.0.0) _ h4.0 k.2) in
    let few : n.0.0 ≤ 64 = leb-true _ _ h2.2 in (
      passed_as (header_bytes o _ _ _ _ _ refl (eqb-true _ _ h1.2) h5.sections_n h5.symbols_n h5.relocs_n) refl (passed_both h1.0 (passed_both h2.0 (passed_both h3.0 (passed_both h4.0 h5.passed)))),
      record {
        few_sections = subst (λ i. i ≤ 64) h5.sections_n few;
        few_symbols = subst (λ i. i < 2 ^ 16) h5.symbols_n h3.1;
        few_relocs = subst (λ i. i < 2 ^ 16) h5.relocs_n h4.1;
        sections = h5.sections;
        symbols = h5.symbols;
        relocs = subst (λ i. AllInTurn (IsReloc o.sections i) [] o.relocs) h5.symbols_n h5.relocs;
      },
    )

-- the bytes of an object that was read are its spelling, and it keeps its limits
pub read_is_object : (bytes : List ℕ) (o : ObjectData) → ((k : ℕ) → get_or bytes k 0 < 2 ^ 8) → object_of bytes ≡ Ok o → (bytes_of_object o ≡ bytes) × IsObject o
unfolding object_of
read_is_object bytes o small e =
    let b = bind_ok (object_at (place_between [] bytes)) _ _ e in
    let h = object_passed [] bytes b.0.0 b.0.1 (bytes_from bytes small) b.1 in
    let t = passed_test (eqb b.0.1.place (length bytes)) b.0.0 o _ b.2 in
    let end : length (bytes_of_object b.0.0) ≡ length bytes = sym (ap (λ (p : Place). p.place) h.0.at) ∙ eqb-true _ _ t.0 in
    let none : h.0.after ≡ [] = nothing h.0.after (omega (arith, ap length h.0.is, length-append (bytes_of_object b.0.0) h.0.after)) in
    (ap bytes_of_object (sym t.1) ∙ sym (append-nil (bytes_of_object b.0.0)) ∙ ap (λ (l : List ℕ). bytes_of_object b.0.0 ++ l) (sym none) ∙ sym h.0.is, subst IsObject t.1 h.1)
  where
    nothing : (xs : List ℕ) → length xs ≤ 0 → xs ≡ []
    nothing [] h = refl
    nothing (x ∷ xs) h = absurd (omega arith)
