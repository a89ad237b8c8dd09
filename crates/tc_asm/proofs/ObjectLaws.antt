-- The draft of a source that breaks no rule is an object.
use Rattle.std.proofs.Common.{◌≡◌, ◌<◌, ◌≤◌, ◌+◌, ◌-◌, ◌^◌, ◌%◌, ◌++◌, ◌||◌, ◌&&◌, ◌==◌, ◌⊎◌, inl, inr, ℕ, zero, suc, Bool, true, false, cond, List, [], ◌∷◌, length, map, Option, None, Some, refl, ap, sym, subst, ◌∙◌, arith, length-append, lit<}
use Rattle.std.specs.Prelude.{slice_get, unwrap_or, nat_lt, nat_le}
use Rattle.std.specs.List.{list_any}
use Rattle.std.specs.Str.{bytes_eq}
use Rattle.std.proofs.lemmas.List.{length-map, map-append}
use Rattle.std.proofs.lemmas.List.Sums.{sum_by-cons}
use Rattle.std.proofs.lemmas.Bool.{and_parts, leb-true, lt-ltb, le-leb, and_from, or_right}
use Rattle.std.proofs.lemmas.Bool.Decides.{Decides-eqb}
use Rattle.tc_object.specs.declared.relocs.Reloc.{Reloc}
use Rattle.tc_object.specs.Names.{IsNewObjectName}
use Rattle.tc_object.specs.Objects.{SectionData, AllInTurn, is_section_name, is_symbol_name, IsSection, IsSymbol, IsReloc, IsObject, is_after_last_reloc, last_reloc}
use Rattle.tc_object.specs.Objects as object
use Rattle.tc_stmt.specs.Items.{ReferenceData}
use Rattle.tc_asm.specs.declared.symbols.Place.{Place}
use Rattle.tc_asm.specs.Symbols.{SymbolData, symbol_number, symbol_names}
use Rattle.tc_asm.specs.Drafts.{UseData, DraftSectionData, DraftData, draft_section_names, count_of_uses, draft_section_size_at}
use Rattle.tc_asm.specs.Objects.{section_of, object_symbol, symbol_of, assembled_addend, reloc_of, relocs_of_sections, object_of_draft}
use Rattle.tc_asm.specs.DraftInvariants.{EachInDraft, is_drafted_name, IsNewDraftName, IsLabelPlace, IsLabelPlaceIfAny, AreUsesDisjoint, IsUseOfKnownSymbol, IsDraftSection, IsWellFormedDraft}
use Rattle.tc_asm.proofs.FinishLaws.{size_small}
use Rattle.tc_asm.proofs.ListLaws.{each_weaker, any_first, position_first, spaced_end}

-- ---- sections
section_among : (ss : List SectionData) (name : List ℕ) → is_section_name ss name ≡ is_drafted_name (map (λ (s : SectionData). s.name) ss) name
section_among [] name = refl
section_among (s ∷ ss) name = ap (λ b. bytes_eq name s.name || b) (section_among ss name)

sections_turn : (before : List SectionData) (parts : List DraftSectionData) → AllInTurn IsNewDraftName (map (λ (s : SectionData). s.name) before) (draft_section_names parts) → EachInDraft (λ (p : DraftSectionData). length p.bytes < 2 ^ 32) parts
    → AllInTurn IsSection before (map section_of parts)
sections_turn before [] h small = tt
sections_turn before (p ∷ ps) h small = (
  record { name = record { some = h.0.some; few = h.0.few; written = h.0.written; new = section_among before p.name ∙ h.0.new }; small = small.0 },
  sections_turn (before ++ section_of p ∷ []) ps (subst (λ (ns : List (List ℕ)). AllInTurn IsNewDraftName ns (draft_section_names ps)) (sym (map-append (λ (s : SectionData). s.name) before (section_of p ∷ []))) h.1) small.1,
)

size-sections : (parts : List DraftSectionData) (n : ℕ) → object.section_size_at (map section_of parts) n ≡ draft_section_size_at parts n
size-sections [] n = refl
size-sections (p ∷ ps) zero = refl
size-sections (p ∷ ps) (suc n) = size-sections ps n

-- ---- symbols
symbol_among : (ss : List object.SymbolData) (name : List ℕ) → is_symbol_name ss name ≡ is_drafted_name (map (λ (s : object.SymbolData). s.name) ss) name
symbol_among [] name = refl
symbol_among (s ∷ ss) name = ap (λ b. bytes_eq name s.name || b) (symbol_among ss name)

name_kept : (name : List ℕ) (g : Bool) (o : Option Place) → (object_symbol name g o).name ≡ name
name_kept name g None = refl
name_kept name g (Some p) = refl

module _ (parts : List DraftSectionData) (few : length parts ≤ 64) (small : (n : ℕ) → draft_section_size_at parts n ≤ 2 ^ 24) where
  in_section : (p : Place) → IsLabelPlace parts p → nat_lt p.section (length (map section_of parts)) ≡ true
  in_section p h = lt-ltb p.section (length (map section_of parts)) (let s = h.section in omega (arith, length-map parts section_of))

  in_bytes : (p : Place) → IsLabelPlace parts p → nat_le p.offset (object.section_size_at (map section_of parts) p.section) ≡ true
  in_bytes p h = le-leb p.offset (object.section_size_at (map section_of parts) p.section) (let o = h.offset in omega (arith, size-sections parts p.section))

  symbol_good : (before : List object.SymbolData) (name : List ℕ) (g : Bool) (o : Option Place) → IsNewObjectName (is_symbol_name before) name → IsLabelPlaceIfAny parts o
      → IsSymbol (map section_of parts) before (object_symbol name g o)
  symbol_good before name g None h placed = record { name = h; kind = omega arith; section = refl; offset = refl; half = lit< tt; word = lit< tt }
  symbol_good before name true (Some p) h placed = record {
    name = h;
    kind = omega arith;
    section = in_section p placed;
    offset = in_bytes p placed;
    half = let s = placed.section in omega arith;
    word = let o = placed.offset in omega (arith, small p.section);
  }
  symbol_good before name false (Some p) h placed = record {
    name = h;
    kind = omega arith;
    section = in_section p placed;
    offset = in_bytes p placed;
    half = let s = placed.section in omega arith;
    word = let o = placed.offset in omega (arith, small p.section);
  }

  symbols_turn : (before : List object.SymbolData) (ss : List SymbolData) → AllInTurn IsNewDraftName (map (λ (s : object.SymbolData). s.name) before) (symbol_names ss) → EachInDraft (λ (s : SymbolData). IsLabelPlaceIfAny parts s.entry.place) ss
      → AllInTurn (IsSymbol (map section_of parts)) before (map symbol_of ss)
  symbols_turn before [] h placed = tt
  symbols_turn before (s ∷ ss) h placed =
      let named : IsNewObjectName (is_symbol_name before) s.name = record { some = h.0.some; few = h.0.few; written = h.0.written; new = symbol_among before s.name ∙ h.0.new } in
      let names : map (λ (t : object.SymbolData). t.name) (before ++ symbol_of s ∷ []) ≡ map (λ (t : object.SymbolData). t.name) before ++ s.name ∷ []
      = map-append (λ (t : object.SymbolData). t.name) before (symbol_of s ∷ []) ∙ ap (λ n. map (λ (t : object.SymbolData). t.name) before ++ n ∷ []) (name_kept s.name s.entry.is_global s.entry.place) in (
        symbol_good before s.name s.entry.is_global s.entry.place named placed.0,
        symbols_turn (before ++ symbol_of s ∷ []) ss (subst (λ (ns : List (List ℕ)). AllInTurn IsNewDraftName ns (symbol_names ss)) (sym names) h.1) placed.1,
      )

-- ---- relocations
last-push : (rs : List Reloc) (r : Reloc) → last_reloc (rs ++ r ∷ []) ≡ Some r
last-push rs r = ap (λ n. slice_get (rs ++ r ∷ []) n) (let l = length-append rs (r ∷ []) in omega arith) ∙ there rs
  where
    there : (ss : List Reloc) → slice_get (ss ++ r ∷ []) (length ss) ≡ Some r
    there [] = refl
    there (s ∷ ss) = there ss

-- places in later sections, and in this one from low on, come after these relocations
abbrev Behind : List Reloc → ℕ → ℕ → Type 0
Behind before s low = (t o : ℕ) → (s < t) ⊎ ((t ≡ s) × (low ≤ o)) → is_after_last_reloc (last_reloc before) t o ≡ true

behind-push : (before : List Reloc) (r : Reloc) (s low : ℕ) → r.section ≡ s → r.offset < low → Behind (before ++ r ∷ []) s low
behind-push before r s low same less t o (inl later) =
    ap (λ l. is_after_last_reloc l t o) (last-push before r) ∙ ap (λ b. b || (r.section == t && nat_lt r.offset o)) (lt-ltb r.section t (omega arith))
behind-push before r s low same less t o (inr h) =
    let e : t ≡ s = h.0 in let le = h.1 in
    ap (λ l. is_after_last_reloc l t o) (last-push before r)
    ∙ or_right (nat_lt r.section t) (r.section == t && nat_lt r.offset o) (and_from (r.section == t) (nat_lt r.offset o) ((Decides-eqb r.section t).1 (omega arith)) (lt-ltb r.offset o (omega arith)))

behind-later : (before : List Reloc) (s low : ℕ) → Behind before s low → Behind before (s + 1) 0
behind-later before s low h t o (inl later) = h t o (inl (omega arith))
behind-later before s low h t o (inr same) = let e = same.0 in h t o (inl (omega arith))

module _ (ss : List SymbolData) (few : length ss < 2 ^ 16) (sections : List SectionData) (few_sections : length sections ≤ 64) where
  number_less : (name : List ℕ) → is_drafted_name (symbol_names ss) name ≡ true → symbol_number ss name < length ss
  number_less name h =
      let known : list_any (λ (s : SymbolData). bytes_eq name s.name) ss ≡ true = sym (among ss) ∙ h in
      let first = any_first (λ (s : SymbolData). bytes_eq name s.name) ss known in
      let is = ap (λ o. unwrap_or o 0) (position_first (λ (s : SymbolData). bytes_eq name s.name) ss known) in
      omega (arith, first, is)
    where
      among : (us : List SymbolData) → is_drafted_name (symbol_names us) name ≡ list_any (λ (s : SymbolData). bytes_eq name s.name) us
      among [] = refl
      among (u ∷ us) = ap (λ b. bytes_eq name u.name || b) (among us)

  addend_less : (r : ReferenceData) → assembled_addend r < 2 ^ 32
  addend_less r = by r.minus
    where
      by : (b : Bool) → cond b ((2 ^ 32 - r.size % 2 ^ 32) % 2 ^ 32) (r.size % 2 ^ 32) < 2 ^ 32
      by true = omega arith
      by false = omega arith

  reloc_good : (before : List Reloc) (s : ℕ) (u : UseData) → s < length sections → u.offset + 4 ≤ object.section_size_at sections s → object.section_size_at sections s < 2 ^ 32 → IsUseOfKnownSymbol (symbol_names ss) u
      → is_after_last_reloc (last_reloc before) s u.offset ≡ true → IsReloc sections (length (map symbol_of ss)) before (reloc_of ss s u)
  reloc_good before s u within room small kept behind =
      let k = and_parts _ _ kept.kind in
      let number = number_less u.reference.name kept.known in
      record {
        section = within;
        behind = behind;
        room = room;
        some = leb-true 1 u.reference.kind k.0;
        kind = leb-true u.reference.kind 7 k.1;
        symbol = omega (arith, number, length-map ss symbol_of);
        half = omega arith;
        word = omega arith;
        addend = addend_less u.reference;
      }

  -- the relocations of one section, and what follows
  uses_turn : (s : ℕ) → s < length sections → object.section_size_at sections s < 2 ^ 32 → (us : List UseData) (before rest : List Reloc) (low size : ℕ) → size ≡ object.section_size_at sections s
      → AreUsesDisjoint low us size → EachInDraft (IsUseOfKnownSymbol (symbol_names ss)) us → Behind before s low
      → ((b : List Reloc) → Behind b (s + 1) 0 → AllInTurn (IsReloc sections (length (map symbol_of ss))) b rest)
      → AllInTurn (IsReloc sections (length (map symbol_of ss))) before (map (reloc_of ss s) us ++ rest)
  uses_turn s within small [] before rest low size e spaced uses behind next = next before (behind-later before s low behind)
  uses_turn s within small (u ∷ us) before rest low size e spaced uses behind next = (
    reloc_good before s u within (let ends = spaced_end (u.offset + 4) us size spaced.1 in omega arith) small uses.0 (behind s u.offset (inr (refl, spaced.0))),
    uses_turn s within small us (before ++ reloc_of ss s u ∷ []) rest (u.offset + 4) size e spaced.1 uses.1 (behind-push before (reloc_of ss s u) s (u.offset + 4) refl (omega arith)) next,
  )

-- the relocations of the sections from this number on
module _ (ss : List SymbolData) (few : length ss < 2 ^ 16) (parts : List DraftSectionData) (few_parts : length parts ≤ 64) (total : ℕ) (fits : total ≤ 2 ^ 24) (good : EachInDraft (IsDraftSection (symbol_names ss) total) parts) where
  relocs_turn : (s : ℕ) (rest : List DraftSectionData) (before : List Reloc) → s + length rest ≡ length parts → ((n : ℕ) → draft_section_size_at parts (s + n) ≡ draft_section_size_at rest n) → EachInDraft (IsDraftSection (symbol_names ss) total) rest → Behind before s 0
      → AllInTurn (IsReloc (map section_of parts) (length (map symbol_of ss))) before (relocs_of_sections ss s rest)
  relocs_turn s [] before count sizes each behind = tt
  relocs_turn s (p ∷ ps) before count sizes each behind =
      let long = length-map parts section_of in
      let same : object.section_size_at (map section_of parts) s ≡ length p.bytes = size-sections parts s ∙ ap (draft_section_size_at parts) (sym (add-none s)) ∙ sizes 0 in
      let p_small = each.0.small in
      uses_turn ss few (map section_of parts) (omega arith) s (omega arith) (omega arith) p.uses before (relocs_of_sections ss (s + 1) ps) 0 (length p.bytes) (sym same) each.0.spaced each.0.uses behind
      (λ b later. relocs_turn (s + 1) ps b (omega arith) (λ n. ap (draft_section_size_at parts) (moved n) ∙ sizes (suc n)) each.1 later)
    where
      add-none : (n : ℕ) → n + 0 ≡ n
      add-none n = omega arith

      moved : (n : ℕ) → s + 1 + n ≡ s + suc n
      moved n = omega arith

length-relocs : (ss : List SymbolData) (s : ℕ) (parts : List DraftSectionData) → length (relocs_of_sections ss s parts) ≡ count_of_uses parts
length-relocs ss s [] = refl
length-relocs ss s (p ∷ ps) =
    let rest = length-relocs ss (s + 1) ps in
    let own = length-map p.uses (reloc_of ss s) in
    length-append (map (reloc_of ss s) p.uses) (relocs_of_sections ss (s + 1) ps) ∙ omega (arith, rest, own, sum_by-cons (λ (q : DraftSectionData). length q.uses) p ps)

pub IsObject-draft : (d : DraftData) → IsWellFormedDraft d → IsObject (object_of_draft d)
IsObject-draft d h =
    let parts_long = length-map d.parts section_of in
    let symbols_long = length-map d.symbols symbol_of in
    let few_parts = h.few_parts in let few_symbols = h.few_symbols in let few_relocs = h.few_relocs in let total = h.total in
    let zero_more : (n : ℕ) → 0 + n ≡ n = λ n. omega arith in
    record {
      few_sections = omega arith;
      few_symbols = omega arith;
      few_relocs = let all = length-relocs d.symbols 0 d.parts in let c = h.count in omega arith;
      sections = sections_turn [] d.parts h.parts_named (each_weaker (IsDraftSection (symbol_names d.symbols) d.total) (λ (p : DraftSectionData). length p.bytes < 2 ^ 32) (λ p k. let s = k.small in omega arith) d.parts h.parts);
      symbols = symbols_turn d.parts h.few_parts (λ n. let s = size_small (symbol_names d.symbols) d.total d.parts h.parts n in omega arith) [] d.symbols h.symbols_named h.places;
      relocs = relocs_turn d.symbols h.few_symbols d.parts h.few_parts d.total h.total h.parts 0 d.parts [] (zero_more (length d.parts)) (λ n. ap (draft_section_size_at d.parts) (zero_more n)) h.parts (λ t o any. refl);
    }

-- the object of parts that are equal to those of the draft
pub object_whole : (d : DraftData) (ss : List SectionData) (ys : List object.SymbolData) (rs : List Reloc) → IsWellFormedDraft d
    → ss ≡ map section_of d.parts → ys ≡ map symbol_of d.symbols → rs ≡ relocs_of_sections d.symbols 0 d.parts → IsObject (record { sections = ss; symbols = ys; relocs = rs })
object_whole d ss ys rs h e f g =
    subst (λ (xs : List SectionData). IsObject (record { sections = xs; symbols = ys; relocs = rs })) (sym e)
    (subst (λ (xs : List object.SymbolData). IsObject (record { sections = map section_of d.parts; symbols = xs; relocs = rs })) (sym f)
    (subst (λ (xs : List Reloc). IsObject (record { sections = map section_of d.parts; symbols = map symbol_of d.symbols; relocs = xs })) (sym g) (IsObject-draft d h)))
