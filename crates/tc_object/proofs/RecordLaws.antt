-- A record of fixed size, read at once: a relocation, and the part of a symbol after its name.
use Rattle.std.proofs.Common.{◌≡◌, ◌+◌, ◌<◌, ◌≤◌, ℕ, List, length, take, drop, get_or, Bool, true, false, ◌&&◌, Result, Ok, Err, refl, sym, ap, ◌∙◌, arith}
use Rattle.std.specs.Prelude.{nat_le, nat_lt, Option, Some, None, IsSome, ◌↔◌}
use Rattle.std.proofs.lemmas.Bool.{le-leb}
use Rattle.std.proofs.lemmas.List.{get_or-take, get_or-drop}
use Rattle.tcd_base.specs.declared.errors.FormErr.{FormErr}
use Rattle.tcd_base.specs.Bytes.{half_in_bytes, word_in_bytes}
use Rattle.tcd_base.specs.Place.{Place}
use Rattle.tcd_base.specs.FieldReaders.{◌>>=◌, u8_at, u16_at, u32_at}
use Rattle.tc_object.specs.declared.relocs.Reloc.{Reloc}
use Rattle.tc_object.specs.Objects.{SectionData, SymbolData, is_valid_symbol_section, is_valid_symbol_offset, last_reloc, is_after_last_reloc, section_size_at}
use Rattle.tc_object.specs.Grammar.{is_reloc_section_ordered, checked_object_field, kind_at, symbol_section_at, symbol_offset_at, symbol_after_name, reloc_section_at, reloc_offset_at, reloc_symbol_at, next_reloc_at}
use Rattle.tc_object.specs.Faults.{object_field_fault, reloc_fault, symbol_fault}
use Rattle.tcd_base.proofs.FieldReads.{chosen}
use Rattle.tc_object.proofs.BackLaws.{then_ok}

-- ---- fields of bytes that were taken
byte_in : (bytes : List ℕ) (place n i j : ℕ) → i < n → j ≡ place + i → get_or (take n (drop place bytes)) i 0 ≡ get_or bytes j 0
byte_in bytes place n i j h e = get_or-take n (drop place bytes) i 0 h ∙ get_or-drop place bytes i 0 ∙ ap (λ k. get_or bytes k 0) (sym e)

half_in : (bytes : List ℕ) (place n i j : ℕ) → i + 2 ≤ n → j ≡ place + i → half_in_bytes (take n (drop place bytes)) i ≡ half_in_bytes bytes j
half_in bytes place n i j h e =
    let a = byte_in bytes place n i j (omega arith) e in
    let b = byte_in bytes place n (i + 1) (j + 1) (omega arith) (omega arith) in
    omega arith

word_in : (bytes : List ℕ) (place n i j : ℕ) → i + 4 ≤ n → j ≡ place + i → word_in_bytes (take n (drop place bytes)) i ≡ word_in_bytes bytes j
word_in bytes place n i j h e =
    let a = byte_in bytes place n i j (omega arith) e in
    let b = byte_in bytes place n (i + 1) (j + 1) (omega arith) (omega arith) in
    let c = byte_in bytes place n (i + 2) (j + 2) (omega arith) (omega arith) in
    let d = byte_in bytes place n (i + 3) (j + 3) (omega arith) (omega arith) in
    omega arith

-- ---- fields that are there
-- a place further on in the same bytes
abbrev pub further : Place → ℕ → Place
further p n = record { bytes = p.bytes; place = n }

byte_here : (p : Place) (n x : ℕ) → p.place + 1 ≤ length p.bytes → n ≡ p.place + 1 → x ≡ get_or p.bytes p.place 0 → u8_at p ≡ Ok (x, further p n)
unfolding u8_at
byte_here p n x h e f = rw (e, f) (chosen _ _ _ (le-leb _ _ h))

half_here : (p : Place) (n x : ℕ) → p.place + 2 ≤ length p.bytes → n ≡ p.place + 2 → x ≡ half_in_bytes p.bytes p.place → u16_at p ≡ Ok (x, further p n)
unfolding u16_at
half_here p n x h e f = rw (e, f) (chosen _ _ _ (le-leb _ _ h))

word_here : (p : Place) (n x : ℕ) → p.place + 4 ≤ length p.bytes → n ≡ p.place + 4 → x ≡ word_in_bytes p.bytes p.place → u32_at p ≡ Ok (x, further p n)
unfolding u32_at
word_here p n x h e f = rw (e, f) (chosen _ _ _ (le-leb _ _ h))

-- ---- tests, and what follows them
-- the value, if there is no fault
abbrev pub told : {A : Type 0} → Option FormErr → A → Result A FormErr
told None x = Ok x
told (Some e) x = Err e

one_test : {A B : Type 0} (good : Bool) (kind : ℕ) (p : Place) (x : A × Place) (f : A × Place → Result B FormErr) (next : Option FormErr) (y : B) → f x ≡ told next y
    → (checked_object_field kind good p x >>= f) ≡ told (object_field_fault good kind p.place next) y
one_test true kind p x f next y h = h
one_test false kind p x f next y h = refl

two_tests : {A B : Type 0} (a : Bool) (b : A × Place → Bool) (k l : ℕ) (p q : Place) (x : A × Place) (f : A × Place → Result B FormErr) (next : Option FormErr) (y : B) → f x ≡ told next y
    → ((checked_object_field k a p x >>= λ v. checked_object_field l (b v) q v) >>= f) ≡ told (object_field_fault a k p.place (object_field_fault (b x) l q.place next)) y
two_tests true b k l p q x f next y h = one_test (b x) l q x f next y h
two_tests false b k l p q x f next y h = refl

kind_then : {B : Type 0} (low high : ℕ) (p : Place) (n x : ℕ) (f : ℕ × Place → Result B FormErr) (next : Option FormErr) (y : B) → u8_at p ≡ Ok (x, further p n) → f (x, further p n) ≡ told next y
    → (kind_at low high p >>= f) ≡ told (object_field_fault (nat_le low x && nat_le x high) 4 p.place next) y
unfolding kind_at
kind_then low high p n x f next y h k = rw h (one_test (nat_le low x && nat_le x high) 4 p (x, further p n) f next y k)

-- ---- relocations
abbrev pub reloc_in : List ℕ → Reloc
reloc_in bytes = record { section = half_in_bytes bytes 0; offset = word_in_bytes bytes 2; kind = get_or bytes 6 0; symbol = half_in_bytes bytes 7; addend = word_in_bytes bytes 9 }

section_then : {B : Type 0} (sections : List SectionData) (before : List Reloc) (p : Place) (n x : ℕ) (f : ℕ × Place → Result B FormErr) (next : Option FormErr) (y : B) → u16_at p ≡ Ok (x, further p n) → f (x, further p n) ≡ told next y
    → (reloc_section_at sections before p >>= f) ≡ told (object_field_fault (is_reloc_section_ordered (last_reloc before) x) 3 p.place (object_field_fault (nat_lt x (length sections)) 4 p.place next)) y
unfolding reloc_section_at
section_then sections before p n x f next y h k = rw h (two_tests (is_reloc_section_ordered (last_reloc before) x) (λ s. nat_lt s.0 (length sections)) 3 4 p p (x, further p n) f next y k)

offset_then : {B : Type 0} (sections : List SectionData) (before : List Reloc) (section : ℕ) (start p : Place) (n x : ℕ) (f : ℕ × Place → Result B FormErr) (next : Option FormErr) (y : B) → u32_at p ≡ Ok (x, further p n) → f (x, further p n) ≡ told next y
    → (reloc_offset_at sections before section start p >>= f) ≡ told (object_field_fault (is_after_last_reloc (last_reloc before) section x) 3 start.place (object_field_fault (nat_le (x + 4) (section_size_at sections section)) 4 p.place next)) y
unfolding reloc_offset_at
offset_then sections before section start p n x f next y h k = rw h (two_tests (is_after_last_reloc (last_reloc before) section x) (λ o. nat_le (o.0 + 4) (section_size_at sections section)) 3 4 start p (x, further p n) f next y k)

symbol_then : {B : Type 0} (symbols : ℕ) (p : Place) (n x : ℕ) (f : ℕ × Place → Result B FormErr) (next : Option FormErr) (y : B) → u16_at p ≡ Ok (x, further p n) → f (x, further p n) ≡ told next y
    → (reloc_symbol_at symbols p >>= f) ≡ told (object_field_fault (nat_lt x symbols) 4 p.place next) y
unfolding reloc_symbol_at
symbol_then symbols p n x f next y h k = rw h (one_test (nat_lt x symbols) 4 p (x, further p n) f next y k)

-- a relocation whose bytes are there
pub whole_reloc : (sections : List SectionData) (symbols : ℕ) (before : List Reloc) (p : Place) → p.place + 13 ≤ length p.bytes
    → next_reloc_at sections symbols before p
    ≡ told (reloc_fault sections symbols before (reloc_in (take 13 (drop p.place p.bytes))) p.place) (reloc_in (take 13 (drop p.place p.bytes)), further p (p.place + 13))
unfolding next_reloc_at reloc_fault
whole_reloc sections symbols before p h =
    let r : Reloc = reloc_in (take 13 (drop p.place p.bytes)) in
    let e0 = half_here p (p.place + 2) r.section (omega arith) refl (half_in p.bytes p.place 13 0 p.place (omega arith) (omega arith)) in
    let e1 = word_here (further p (p.place + 2)) (p.place + 6) r.offset (omega arith) (omega arith) (word_in p.bytes p.place 13 2 (p.place + 2) (omega arith) refl) in
    let e2 = byte_here (further p (p.place + 6)) (p.place + 7) r.kind (omega arith) (omega arith) (byte_in p.bytes p.place 13 6 (p.place + 6) (omega arith) refl) in
    let e3 = half_here (further p (p.place + 7)) (p.place + 9) r.symbol (omega arith) (omega arith) (half_in p.bytes p.place 13 7 (p.place + 7) (omega arith) refl) in
    let e4 = word_here (further p (p.place + 9)) (p.place + 13) r.addend (omega arith) (omega arith) (word_in p.bytes p.place 13 9 (p.place + 9) (omega arith) refl) in
    section_then sections before p (p.place + 2) r.section _ _ _ e0
    (offset_then sections before r.section p (further p (p.place + 2)) (p.place + 6) r.offset _ _ _ e1
    (kind_then 1 7 (further p (p.place + 6)) (p.place + 7) r.kind _ _ _ e2
    (symbol_then symbols (further p (p.place + 7)) (p.place + 9) r.symbol _ _ _ e3
    (then_ok _ _ _ _ e4 refl))))

-- ---- symbols
abbrev pub symbol_in : List ℕ → List ℕ → SymbolData
symbol_in name bytes = record { name = name; kind = get_or bytes 0 0; section = half_in_bytes bytes 1; offset = word_in_bytes bytes 3 }

place_then : {B : Type 0} (sections : List SectionData) (kind : ℕ) (p : Place) (n x : ℕ) (f : ℕ × Place → Result B FormErr) (next : Option FormErr) (y : B) → u16_at p ≡ Ok (x, further p n) → f (x, further p n) ≡ told next y
    → (symbol_section_at sections kind p >>= f) ≡ told (object_field_fault (is_valid_symbol_section sections kind x) 4 p.place next) y
unfolding symbol_section_at
place_then sections kind p n x f next y h k = rw h (one_test (is_valid_symbol_section sections kind x) 4 p (x, further p n) f next y k)

end_then : {B : Type 0} (sections : List SectionData) (kind section : ℕ) (p : Place) (n x : ℕ) (f : ℕ × Place → Result B FormErr) (next : Option FormErr) (y : B) → u32_at p ≡ Ok (x, further p n) → f (x, further p n) ≡ told next y
    → (symbol_offset_at sections kind section p >>= f) ≡ told (object_field_fault (is_valid_symbol_offset sections kind section x) 4 p.place next) y
unfolding symbol_offset_at
end_then sections kind section p n x f next y h k = rw h (one_test (is_valid_symbol_offset sections kind section x) 4 p (x, further p n) f next y k)

-- a symbol whose bytes after the name are all there
pub whole_symbol : (sections : List SectionData) (name : List ℕ) (p : Place) → p.place + 7 ≤ length p.bytes
    → symbol_after_name sections name p
    ≡ told (symbol_fault sections (symbol_in name (take 7 (drop p.place p.bytes))) p.place) (symbol_in name (take 7 (drop p.place p.bytes)), further p (p.place + 7))
unfolding symbol_after_name symbol_fault
whole_symbol sections name p h =
    let s : SymbolData = symbol_in name (take 7 (drop p.place p.bytes)) in
    let e0 = byte_here p (p.place + 1) s.kind (omega arith) refl (byte_in p.bytes p.place 7 0 p.place (omega arith) (omega arith)) in
    let e1 = half_here (further p (p.place + 1)) (p.place + 3) s.section (omega arith) (omega arith) (half_in p.bytes p.place 7 1 (p.place + 1) (omega arith) refl) in
    let e2 = word_here (further p (p.place + 3)) (p.place + 7) s.offset (omega arith) (omega arith) (word_in p.bytes p.place 7 3 (p.place + 3) (omega arith) refl) in
    kind_then 0 2 p (p.place + 1) s.kind _ _ _ e0
    (place_then sections s.kind (further p (p.place + 1)) (p.place + 3) s.section _ _ _ e1
    (end_then sections s.kind s.section (further p (p.place + 3)) (p.place + 7) s.offset _ _ _ e2 refl))

-- ---- a test of the fields, and the reading
-- a successful take means that the bytes are there
pub taken : {A : Type 0} (r : Option A) (x : A) (P : Type 0) → (IsSome r ↔ P) → r ≡ Some x → P
taken (Some y) x P h e = h.0 refl
taken None x P h e = cc

-- if the record has no fault, the reading gives it
pub none_told : {A : Type 0} (read : Result (A × Place) FormErr) (fault : A → ℕ → Option FormErr) (x y : A) (i j : ℕ) (p q : Place) → read ≡ told (fault x i) (x, p) → y ≡ x → j ≡ i → q ≡ p → fault y j ≡ None → read ≡ Ok (y, q)
none_told read fault x y i j p q h e f g none =
    h ∙ ap (λ v. told (fault v i) (v, p)) (sym e) ∙ ap (λ v. told (fault y v) (y, p)) (sym f) ∙ ap (λ v. told (fault y j) (y, v)) (sym g) ∙ ap (λ v. told v (y, q)) none

-- if the record has a fault, the reading gives that fault
pub fault_told : {A : Type 0} (read : Result (A × Place) FormErr) (fault : A → ℕ → Option FormErr) (x y : A) (i j : ℕ) (p : Place) (e : FormErr) → read ≡ told (fault x i) (x, p) → y ≡ x → j ≡ i → fault y j ≡ Some e → read ≡ Err e
fault_told read fault x y i j p e h s f is =
    h ∙ ap (λ v. told (fault v i) (x, p)) (sym s) ∙ ap (λ v. told (fault y v) (x, p)) (sym f) ∙ ap (λ v. told v (x, p)) is
