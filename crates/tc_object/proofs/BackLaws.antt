-- Reading the spelling of an object gives the object.
use Rattle.std.proofs.Common.{◌≡◌, ℕ, suc, ◌+◌, ◌<◌, ◌≤◌, ◌^◌, List, [], ◌∷◌, ◌++◌, length, Bool, true, not, cond, Option, Some, None, Result, Ok, Err, refl, ap, ◌∙◌, arith, append_assoc, eqb}
use Rattle.std.proofs.lemmas.List.{append-nil}
use Rattle.std.proofs.lemmas.Bool.{le-leb, lt-ltb, and_from}
use Rattle.std.proofs.lemmas.Bool.Decides.{nat_tests}
use Rattle.std.specs.List.{flat_map}
use Rattle.tcd_base.specs.declared.errors.FormErr.{FormErr}
use Rattle.tcd_base.specs.Bytes.{bytes_of_half, bytes_of_word}
use Rattle.tcd_base.specs.Place.{Place, place_between}
use Rattle.tcd_base.specs.FieldReaders.{◌>>=◌, many_fields_at}
use Rattle.tcd_base.proofs.FieldReads.{u8_at-between, u16_at-between, u32_at-between, bytes_at-between}
use Rattle.tc_object.specs.declared.relocs.Reloc.{Reloc}
use Rattle.tc_object.specs.Names.{IsNewObjectName, is_name_length}
use Rattle.tc_object.specs.Objects.{SectionData, SymbolData, ObjectData, AllInTurn, IsSection, IsSymbol, IsReloc, IsObject, is_section_name, is_symbol_name, last_reloc, is_after_last_reloc, section_size_at}
use Rattle.tc_object.specs.Grammar.{is_reloc_section_ordered, name_length_at, name_bytes_at, new_object_name_at, new_section_at, section_with_new_name, kind_at, symbol_section_at, symbol_offset_at, new_symbol_at, symbol_with_new_name, symbol_after_name, reloc_section_at, reloc_offset_at, reloc_symbol_at, next_reloc_at, magic_at, section_count_at, object_contents_at, object_at, object_of}
use Rattle.tc_object.specs.Spelling.{bytes_of_name, bytes_of_section, bytes_of_symbol, bytes_of_reloc, bytes_of_header, bytes_of_object}

-- a successful reading, and what follows it
pub then_ok : {A B : Type 0} (r : Result A FormErr) (f : A → Result B FormErr) (x : A) (y : Result B FormErr) → r ≡ Ok x → f x ≡ y → r >>= f ≡ y
then_ok {A} r f x y h k = ap (λ (v : Result A FormErr). v >>= f) h ∙ k

-- a test that holds passes the value on
checked_ok : {A : Type 0} (good : Bool) (x : A) (e : FormErr) → good ≡ true → cond {A = Result A FormErr} good (Ok x) (Err e) ≡ Ok x
checked_ok good x e h = rw h refl

-- ---- names
name_back : (used : List ℕ → Bool) (name : List ℕ) → IsNewObjectName used name → (front rest : List ℕ) → new_object_name_at used (place_between front (bytes_of_name name ++ rest)) ≡ Ok (name, place_between (front ++ bytes_of_name name) rest)
unfolding new_object_name_at name_length_at name_bytes_at bytes_of_name
name_back used name good front rest =
    let long : is_name_length (length name) ≡ true = and_from _ _ (le-leb 1 (length name) good.some) (le-leb (length name) 64 good.few) in
    then_ok _ _ _ _ (then_ok _ _ _ _ (u8_at-between front (length name) (name ++ rest)) (checked_ok _ _ _ long))
    (then_ok _ _ _ _ (then_ok _ _ _ _ (bytes_at-between (front ++ length name ∷ []) name rest) (checked_ok _ _ _ good.written))
    (checked_ok _ _ _ (ap not good.new) ∙ ap (λ (l : List ℕ). Ok (name, place_between l rest)) (append_assoc front (length name ∷ []) name)))

-- ---- many items
many_back : {A : Type 0} (item : List A → Place → Result (A × Place) FormErr) (spell : A → List ℕ) (Good : List A → A → Type 0)
    → ((before : List A) (x : A) → Good before x → (front rest : List ℕ) → item before (place_between front (spell x ++ rest)) ≡ Ok (x, place_between (front ++ spell x) rest))
    → (before xs : List A) (front rest : List ℕ) → AllInTurn Good before xs → many_fields_at item (length xs) before (place_between front (flat_map spell xs ++ rest)) ≡ Ok (before ++ xs, place_between (front ++ flat_map spell xs) rest)
unfolding many_fields_at
many_back item spell Good each before [] front rest good = rw (append-nil before, append-nil front) refl
many_back item spell Good each before (x ∷ xs) front rest good =
    ap (λ (l : List ℕ). many_fields_at item (suc (length xs)) before (place_between front l)) (append_assoc (spell x) (flat_map spell xs) rest)
    ∙ then_ok _ _ _ _ (each before x good.0 front (flat_map spell xs ++ rest))
    (many_back item spell Good each (before ++ x ∷ []) xs (front ++ spell x) rest good.1 ∙ rw (append_assoc before (x ∷ []) xs, append_assoc front (spell x) (flat_map spell xs)) refl)

-- ---- sections
section_back : (before : List SectionData) (s : SectionData) → IsSection before s → (front rest : List ℕ) → new_section_at before (place_between front (bytes_of_section s ++ rest)) ≡ Ok (s, place_between (front ++ bytes_of_section s) rest)
unfolding new_section_at section_with_new_name bytes_of_section
section_back before s good front rest =
    let inner : new_section_at before (place_between front (bytes_of_name s.name ++ (bytes_of_word (length s.bytes) ++ (s.bytes ++ rest)))) ≡ Ok (s, place_between (((front ++ bytes_of_name s.name) ++ bytes_of_word (length s.bytes)) ++ s.bytes) rest) =
    then_ok _ _ _ _ (name_back (is_section_name before) s.name good.name front (bytes_of_word (length s.bytes) ++ (s.bytes ++ rest)))
    (then_ok _ _ _ _ (u32_at-between (front ++ bytes_of_name s.name) (length s.bytes) (s.bytes ++ rest) good.small)
    (then_ok _ _ _ _ (bytes_at-between ((front ++ bytes_of_name s.name) ++ bytes_of_word (length s.bytes)) s.bytes rest) refl)) in
    simp append_assoc (simp append_assoc at inner)

-- ---- symbols
kind_back : (low high kind : ℕ) → low ≤ kind → kind ≤ high → (front rest : List ℕ) → kind_at low high (place_between front (kind ∷ rest)) ≡ Ok (kind, place_between (front ++ kind ∷ []) rest)
unfolding kind_at
kind_back low high kind above below front rest =
    then_ok _ _ _ _ (u8_at-between front kind rest) (checked_ok _ _ _ (and_from _ _ (le-leb low kind above) (le-leb kind high below)))

symbol_back : (sections : List SectionData) (before : List SymbolData) (s : SymbolData) → IsSymbol sections before s → (front rest : List ℕ) → new_symbol_at sections before (place_between front (bytes_of_symbol s ++ rest)) ≡ Ok (s, place_between (front ++ bytes_of_symbol s) rest)
unfolding new_symbol_at symbol_with_new_name symbol_after_name symbol_section_at symbol_offset_at bytes_of_symbol
symbol_back sections before s good front rest =
    let f1 : List ℕ = front ++ bytes_of_name s.name in
    let f2 : List ℕ = f1 ++ s.kind ∷ [] in
    let f3 : List ℕ = f2 ++ bytes_of_half s.section in
    let inner : new_symbol_at sections before (place_between front (bytes_of_name s.name ++ (s.kind ∷ (bytes_of_half s.section ++ (bytes_of_word s.offset ++ rest))))) ≡ Ok (s, place_between (f3 ++ bytes_of_word s.offset) rest) =
    then_ok _ _ _ _ (name_back (is_symbol_name before) s.name good.name front (s.kind ∷ (bytes_of_half s.section ++ (bytes_of_word s.offset ++ rest))))
    (then_ok _ _ _ _ (kind_back 0 2 s.kind (omega arith) good.kind f1 (bytes_of_half s.section ++ (bytes_of_word s.offset ++ rest)))
    (then_ok _ _ _ _ (then_ok _ _ _ _ (u16_at-between f2 s.section (bytes_of_word s.offset ++ rest) good.half) (checked_ok _ _ _ good.section))
    (then_ok _ _ _ _ (then_ok _ _ _ _ (u32_at-between f3 s.offset rest good.word) (checked_ok _ _ _ good.offset)) refl))) in
    simp append_assoc (simp append_assoc at inner)

-- ---- relocations
-- a place after another isn't in a lower section
not_below_of_behind : (last : Option Reloc) (section offset : ℕ) → is_after_last_reloc last section offset ≡ true → is_reloc_section_ordered last section ≡ true
not_below_of_behind None section offset h = refl
not_below_of_behind (Some r) section offset h = le-leb r.section section (grind (arith, nat_tests))

reloc_back : (sections : List SectionData) (symbols : ℕ) (before : List Reloc) (r : Reloc) → symbols < 2 ^ 16 → IsReloc sections symbols before r → (front rest : List ℕ) → next_reloc_at sections symbols before (place_between front (bytes_of_reloc r ++ rest)) ≡ Ok (r, place_between (front ++ bytes_of_reloc r) rest)
unfolding next_reloc_at reloc_section_at reloc_offset_at reloc_symbol_at bytes_of_reloc
reloc_back sections symbols before r few good front rest =
    let f1 : List ℕ = front ++ bytes_of_half r.section in
    let f2 : List ℕ = f1 ++ bytes_of_word r.offset in
    let f3 : List ℕ = f2 ++ r.kind ∷ [] in
    let f4 : List ℕ = f3 ++ bytes_of_half r.symbol in
    let r4 : List ℕ = bytes_of_word r.addend ++ rest in
    let r3 : List ℕ = bytes_of_half r.symbol ++ r4 in
    let r2 : List ℕ = r.kind ∷ r3 in
    let r1 : List ℕ = bytes_of_word r.offset ++ r2 in
    let inner : next_reloc_at sections symbols before (place_between front (bytes_of_half r.section ++ r1)) ≡ Ok (r, place_between (f4 ++ bytes_of_word r.addend) rest) =
    then_ok _ _ _ _ (then_ok _ _ _ _ (u16_at-between front r.section r1 good.half)
    (then_ok _ _ _ _ (checked_ok _ _ _ (not_below_of_behind (last_reloc before) r.section r.offset good.behind)) (checked_ok _ _ _ (lt-ltb r.section (length sections) good.section))))
    (then_ok _ _ _ _ (then_ok _ _ _ _ (u32_at-between f1 r.offset r2 good.word)
    (then_ok _ _ _ _ (checked_ok _ _ _ good.behind) (checked_ok _ _ _ (le-leb (r.offset + 4) (section_size_at sections r.section) good.room))))
    (then_ok _ _ _ _ (kind_back 1 7 r.kind good.some good.kind f2 r3)
    (then_ok _ _ _ _ (then_ok _ _ _ _ (u16_at-between f3 r.symbol r4 (omega (arith, good.symbol))) (checked_ok _ _ _ (lt-ltb r.symbol symbols good.symbol)))
    (then_ok _ _ _ _ (u32_at-between f4 r.addend rest good.addend) refl)))) in
    simp append_assoc (simp append_assoc at inner)

-- ---- objects
object_back : (o : ObjectData) → IsObject o → (front rest : List ℕ) → object_at (place_between front (bytes_of_object o ++ rest)) ≡ Ok (o, place_between (front ++ bytes_of_object o) rest)
unfolding object_at object_contents_at magic_at section_count_at bytes_of_object bytes_of_header
object_back o good front rest =
    let f1 : List ℕ = front ++ bytes_of_word 0x314F4354 in
    let f2 : List ℕ = f1 ++ bytes_of_half (length o.sections) in
    let f3 : List ℕ = f2 ++ bytes_of_half (length o.symbols) in
    let f4 : List ℕ = f3 ++ bytes_of_half (length o.relocs) in
    let f5 : List ℕ = f4 ++ flat_map bytes_of_section o.sections in
    let f6 : List ℕ = f5 ++ flat_map bytes_of_symbol o.symbols in
    let r6 : List ℕ = flat_map bytes_of_reloc o.relocs ++ rest in
    let r5 : List ℕ = flat_map bytes_of_symbol o.symbols ++ r6 in
    let r4 : List ℕ = flat_map bytes_of_section o.sections ++ r5 in
    let r3 : List ℕ = bytes_of_half (length o.relocs) ++ r4 in
    let r2 : List ℕ = bytes_of_half (length o.symbols) ++ r3 in
    let r1 : List ℕ = bytes_of_half (length o.sections) ++ r2 in
    let inner : object_at (place_between front (bytes_of_word 0x314F4354 ++ r1)) ≡ Ok (o, place_between (f6 ++ flat_map bytes_of_reloc o.relocs) rest) =
    then_ok _ _ _ _ (then_ok _ _ _ _ (u32_at-between front 0x314F4354 r1 (omega arith)) refl)
    (then_ok _ _ _ _ (then_ok _ _ _ _ (u16_at-between f1 (length o.sections) r2 (omega (arith, good.few_sections))) (checked_ok _ _ _ (le-leb (length o.sections) 64 good.few_sections)))
    (then_ok _ _ _ _ (u16_at-between f2 (length o.symbols) r3 good.few_symbols)
    (then_ok _ _ _ _ (u16_at-between f3 (length o.relocs) r4 good.few_relocs)
    (then_ok _ _ _ _ (many_back new_section_at bytes_of_section IsSection section_back [] o.sections f4 r5 good.sections)
    (then_ok _ _ _ _ (many_back (new_symbol_at o.sections) bytes_of_symbol (IsSymbol o.sections) (symbol_back o.sections) [] o.symbols f5 r6 good.symbols)
    (then_ok _ _ _ _ (many_back (next_reloc_at o.sections (length o.symbols)) bytes_of_reloc (IsReloc o.sections (length o.symbols)) (λ before r. reloc_back o.sections (length o.symbols) before r good.few_symbols) [] o.relocs f6 rest good.relocs) refl)))))) in
    simp append_assoc (simp append_assoc at inner)

-- an object that is written is read back
pub object_of-bytes_of : (o : ObjectData) → IsObject o → object_of (bytes_of_object o) ≡ Ok o
unfolding object_of
object_of-bytes_of o good =
    let whole : object_at (place_between [] (bytes_of_object o)) ≡ Ok (o, record { bytes = bytes_of_object o; place = length (bytes_of_object o) }) = rw append-nil at (object_back o good [] []) in
    then_ok _ _ _ _ whole (checked_ok _ _ _ (same_length (length (bytes_of_object o))))
  where
    same_length : (n : ℕ) → eqb n n ≡ true
    same_length n = grind (arith, nat_tests)
