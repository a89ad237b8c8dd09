-- What is written of an object whose sections hold bytes are bytes.
use Rattle.std.proofs.Common.{◌≡◌, ◌<◌, ◌≤◌, ◌/◌, ◌%◌, ◌^◌, ◌==◌, ◌&&◌, ◌||◌, not, ℕ, Bool, true, false, List, [], ◌∷◌, ◌++◌, length, nat_le, refl, arith}
use Rattle.std.specs.Prelude.{All, slice_index}
use Rattle.std.specs.List.{flat_map, list_all}
use Rattle.std.proofs.lemmas.Bool.{and_parts, leb-true, eqb-true}
use Rattle.std.proofs.lemmas.List.Elements.{All-nil, All-cons, All-head, All-tail, All-append}
use Rattle.tcd_base.specs.Bytes.{bytes_of_half, bytes_of_word}
use Rattle.tc_object.specs.declared.relocs.Reloc.{Reloc}
use Rattle.tcd_base.specs.NameBytes.{is_name_byte, is_name_start}
use Rattle.tc_object.specs.Names.{IsNewObjectName}
use Rattle.tc_object.specs.Objects.{SectionData, SymbolData, ObjectData, AllInTurn, IsSection, IsSymbol, IsReloc, is_section_name, is_symbol_name}
use Rattle.tc_object.specs.Spelling.{bytes_of_name, bytes_of_section, bytes_of_symbol, bytes_of_reloc, bytes_of_header, bytes_of_object}
use Rattle.tc_asm.proofs.ListLaws.{all_from_each}
use Rattle.tcd_laws.specs.LimitsKept.{IsByte, SectionHoldsBytes, ObjectFilesHoldBytes}

-- ---- numbers
half_small : (x : ℕ) → All IsByte (bytes_of_half x)
half_small x =
    let a : x % 256 < 2 ^ 8 = omega arith in
    let b : x / 256 % 256 < 2 ^ 8 = omega arith in
    all_from_each IsByte (bytes_of_half x) (a, (b, tt))

pub word_small : (x : ℕ) → All IsByte (bytes_of_word x)
word_small x =
    let a : x % 256 < 2 ^ 8 = omega arith in
    let b : x / 256 % 256 < 2 ^ 8 = omega arith in
    let c : x / 65536 % 256 < 2 ^ 8 = omega arith in
    let d : x / 16777216 % 256 < 2 ^ 8 = omega arith in
    all_from_each IsByte (bytes_of_word x) (a, (b, (c, (d, tt))))

-- ---- names
either : (a b : Bool) (n : ℕ) → (a ≡ true → n < 2 ^ 8) → (b ≡ true → n < 2 ^ 8) → (a || b) ≡ true → n < 2 ^ 8
either true b n f g e = f refl
either false b n f g e = g e

between : (low high n : ℕ) → high < 2 ^ 8 → (nat_le low n && nat_le n high) ≡ true → n < 2 ^ 8
between low high n small e = let most : n ≤ high = leb-true n high (and_parts (nat_le low n) (nat_le n high) e).1 in omega arith

equal : (n k : ℕ) → k < 2 ^ 8 → (n == k) ≡ true → n < 2 ^ 8
equal n k small e = let same : n ≡ k = eqb-true n k e in omega arith

first_small : (c : ℕ) → is_name_start c ≡ true → c < 2 ^ 8
unfolding is_name_start
first_small c =
    either _ _ c (either _ _ c (either _ _ c (either _ _ c (between 65 90 c (omega arith)) (between 97 122 c (omega arith))) (equal c 95 (omega arith))) (equal c 46 (omega arith))) (equal c 36 (omega arith))

further_small : (c : ℕ) → is_name_byte c ≡ true → c < 2 ^ 8
unfolding is_name_byte
further_small c = either (is_name_start c) _ c (first_small c) (between 48 57 c (omega arith))

all_further : (cs : List ℕ) → list_all is_name_byte cs ≡ true → All IsByte cs
all_further [] e = All-nil IsByte
all_further (c ∷ cs) e = let p = and_parts _ _ e in All-cons IsByte c cs (further_small c p.0) (all_further cs p.1)

name_small : (used : List ℕ → Bool) (name : List ℕ) → IsNewObjectName used name → All IsByte (bytes_of_name name)
unfolding bytes_of_name
name_small used name is =
    let few = is.few in
    let long : length name < 2 ^ 8 = omega arith in
    let written = and_parts (not (length name == 0)) (is_name_start (slice_index name 0) && list_all is_name_byte name) is.written in
    All-cons IsByte (length name) name long (all_further name (and_parts (is_name_start (slice_index name 0)) (list_all is_name_byte name) written.1).1)

-- ---- sections, symbols and relocations
section_small : (before : List SectionData) (s : SectionData) → IsSection before s → SectionHoldsBytes s → All IsByte (bytes_of_section s)
unfolding bytes_of_section
section_small before s is small =
    All-append IsByte (bytes_of_name s.name) (bytes_of_word (length s.bytes) ++ s.bytes) (name_small (is_section_name before) s.name is.name)
    (All-append IsByte (bytes_of_word (length s.bytes)) s.bytes (word_small (length s.bytes)) small)

symbol_small : (sections : List SectionData) (before : List SymbolData) (s : SymbolData) → IsSymbol sections before s → All IsByte (bytes_of_symbol s)
unfolding bytes_of_symbol
symbol_small sections before s is =
    let low = is.kind in
    let kind : s.kind < 2 ^ 8 = omega arith in
    let rest : List ℕ = bytes_of_half s.section ++ bytes_of_word s.offset in
    All-append IsByte (bytes_of_name s.name) (s.kind ∷ rest) (name_small (is_symbol_name before) s.name is.name)
    (All-cons IsByte s.kind rest kind (All-append IsByte (bytes_of_half s.section) (bytes_of_word s.offset) (half_small s.section) (word_small s.offset)))

reloc_small : (sections : List SectionData) (symbols : ℕ) (before : List Reloc) (r : Reloc) → IsReloc sections symbols before r → All IsByte (bytes_of_reloc r)
unfolding bytes_of_reloc
reloc_small sections symbols before r is =
    let low = is.kind in
    let kind : r.kind < 2 ^ 8 = omega arith in
    let rest : List ℕ = bytes_of_half r.symbol ++ bytes_of_word r.addend in
    All-append IsByte (bytes_of_half r.section) (bytes_of_word r.offset ++ (r.kind ∷ rest)) (half_small r.section)
    (All-append IsByte (bytes_of_word r.offset) (r.kind ∷ rest) (word_small r.offset)
    (All-cons IsByte r.kind rest kind (All-append IsByte (bytes_of_half r.symbol) (bytes_of_word r.addend) (half_small r.symbol) (word_small r.addend))))

-- ---- all of them
sections_small : (before ss : List SectionData) → AllInTurn IsSection before ss → All SectionHoldsBytes ss → All IsByte (flat_map bytes_of_section ss)
sections_small before [] are small = All-nil IsByte
sections_small before (s ∷ ss) are small =
    All-append IsByte (bytes_of_section s) (flat_map bytes_of_section ss) (section_small before s are.0 (All-head SectionHoldsBytes s ss small)) (sections_small (before ++ s ∷ []) ss are.1 (All-tail SectionHoldsBytes s ss small))

symbols_small : (sections : List SectionData) (before ss : List SymbolData) → AllInTurn (IsSymbol sections) before ss → All IsByte (flat_map bytes_of_symbol ss)
symbols_small sections before [] are = All-nil IsByte
symbols_small sections before (s ∷ ss) are = All-append IsByte (bytes_of_symbol s) (flat_map bytes_of_symbol ss) (symbol_small sections before s are.0) (symbols_small sections (before ++ s ∷ []) ss are.1)

relocs_small : (sections : List SectionData) (symbols : ℕ) (before rs : List Reloc) → AllInTurn (IsReloc sections symbols) before rs → All IsByte (flat_map bytes_of_reloc rs)
relocs_small sections symbols before [] are = All-nil IsByte
relocs_small sections symbols before (r ∷ rs) are =
    All-append IsByte (bytes_of_reloc r) (flat_map bytes_of_reloc rs) (reloc_small sections symbols before r are.0) (relocs_small sections symbols (before ++ r ∷ []) rs are.1)

header_small : (o : ObjectData) → All IsByte (bytes_of_header o)
unfolding bytes_of_header
header_small o =
    let relocs = bytes_of_half (length o.relocs) in
    let symbols = bytes_of_half (length o.symbols) in
    let sections = bytes_of_half (length o.sections) in
    All-append IsByte (bytes_of_word 0x314F4354) (sections ++ (symbols ++ relocs)) (word_small 0x314F4354)
    (All-append IsByte sections (symbols ++ relocs) (half_small (length o.sections))
    (All-append IsByte symbols relocs (half_small (length o.symbols)) (half_small (length o.relocs))))

pub objects_spell_bytes : ObjectFilesHoldBytes
unfolding bytes_of_object
objects_spell_bytes o is =
    let good = is.object in
    let sections = flat_map bytes_of_section o.sections in
    let symbols = flat_map bytes_of_symbol o.symbols in
    let relocs = flat_map bytes_of_reloc o.relocs in
    All-append IsByte (bytes_of_header o) (sections ++ (symbols ++ relocs)) (header_small o)
    (All-append IsByte sections (symbols ++ relocs) (sections_small [] o.sections good.sections is.bytes)
    (All-append IsByte symbols relocs (symbols_small o.sections [] o.symbols good.symbols) (relocs_small o.sections (length o.symbols) [] o.relocs good.relocs)))
