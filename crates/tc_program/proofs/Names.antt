-- The symbols of objects are those of their sources.
use Rattle.std.proofs.Common.{◌≡◌, ◌<◌, ◌&&◌, ◌||◌, ◌==◌, ℕ, zero, suc, Bool, true, false, cond, List, [], ◌∷◌, ◌++◌, length, take, map, Option, Some, None, refl, sym, ap, subst, ◌∙◌, arith}
use Rattle.std.proofs.lemmas.Bool.{or_right}
use Rattle.std.specs.Prelude.{slice_get, slice_index, find, filter, unwrap_or, nat_lt, not}
use Rattle.std.specs.Option.{option_map}
use Rattle.std.specs.List.{list_any, flat_map}
use Rattle.std.specs.Str.{bytes_eq}
use Rattle.std.proofs.lemmas.Slice.Eq.{bytes_eq-Decides}
use Rattle.std.proofs.lemmas.Bool.Decides.{Decides-eqb}
use Rattle.tc_object.specs.Objects.{SectionData, ObjectData, AllInTurn}
use Rattle.tc_object.specs.Objects as object
use Rattle.tc_asm.specs.declared.symbols.Place.{Place}
use Rattle.tc_asm.specs.declared.symbols.Entry.{Entry}
use Rattle.tc_asm.specs.Symbols.{SymbolData, entry_or_undefined, place_in, symbol_names}
use Rattle.tc_asm.specs.Drafts.{DraftSectionData}
use Rattle.tc_asm.specs.DraftInvariants.{EachInDraft, is_drafted_name, IsNewDraftName, AreDistinctDraftNames, IsLabelPlace, IsLabelPlaceIfAny, IsWellFormedDraft}
use Rattle.tc_asm.specs.Objects.{section_of, object_symbol, symbol_of, object_of_draft}
use Rattle.tc_link.specs.Layouts.{PlaceData}
use Rattle.tc_link.specs.Refusals.{has_symbol_in_section, first_no_place_refusal}
use Rattle.tc_link.specs.Placing.{PlacedData, section_bases_after, placed_after, address_in_section}
use Rattle.tc_link.specs.GlobalSymbols.{GlobalData, is_global, global_data, globals_of, first_global_address}
use Rattle.tc_link.specs.Placing as placing
use Rattle.tc_asm.specs.Statements.{sections_in}
use Rattle.tc_asm.specs.DraftedSources.{draft_in, symbols_in}
use Rattle.tc_program.specs.Addresses.{SectionHasAddress, LabelHasAddress, GlobalHasAddress}
use Rattle.tc_stmt.proofs.ListItems.{flat_at, map_at, map_get, filter_at, find_at}
use Rattle.tc_asm.proofs.SourceParts.{sections_are}
use Rattle.tc_program.proofs.Sections.{AreObjects, object_at, source_at}
use Rattle.tc_program.proofs.Bases.{placed_from, place_for, begins_at}

-- ---- one entry for a name
pub same_name : (bs : List ℕ) → bytes_eq bs bs ≡ true
same_name bs = (bytes_eq-Decides bs bs).1 refl

-- the names that are in turn differ from those before
find_own : (before : List (List ℕ)) (ss : List SymbolData) (i : ℕ) (s : SymbolData) → AllInTurn IsNewDraftName before (symbol_names ss) → slice_get ss i ≡ Some s → (is_drafted_name before s.name ≡ false) × (find (λ (t : SymbolData). bytes_eq s.name t.name) ss ≡ Some s)
find_own before [] i s turn e = cc
find_own before (x ∷ xs) zero s turn e =
    let same : x ≡ s = cc in (
      ap (λ (y : SymbolData). is_drafted_name before y.name) (sym same) ∙ turn.0.new,
      ap (λ (y : SymbolData). cond (bytes_eq s.name y.name) (Some y) (find (λ (t : SymbolData). bytes_eq s.name t.name) xs)) same
          ∙ ap (λ b. cond b (Some s) (find (λ (t : SymbolData). bytes_eq s.name t.name) xs)) (same_name s.name),
    )
find_own before (x ∷ xs) (suc i) s turn e =
    let rest = find_own (before ++ x.name ∷ []) xs i s turn.1 e in
    let parts = among_parts before (x.name ∷ []) s.name rest.0 in
    let other : bytes_eq s.name x.name ≡ false = or_left (bytes_eq s.name x.name) false parts.1 in
    (parts.0, ap (λ b. cond b (Some x) (find (λ (t : SymbolData). bytes_eq s.name t.name) xs)) other ∙ rest.1)
  where
    or_left : (a b : Bool) → (a || b) ≡ false → a ≡ false
    or_left true b f = cc
    or_left false b f = refl

    among_parts : (xs ys : List (List ℕ)) (n : List ℕ) → is_drafted_name (xs ++ ys) n ≡ false → (is_drafted_name xs n ≡ false) × (is_drafted_name ys n ≡ false)
    among_parts [] ys n f = (refl, f)
    among_parts (z ∷ zs) ys n f = by (bytes_eq n z) f (among_parts zs ys n)
      where
        by : (b : Bool) → (b || is_drafted_name (zs ++ ys) n) ≡ false → (is_drafted_name (zs ++ ys) n ≡ false → (is_drafted_name zs n ≡ false) × (is_drafted_name ys n ≡ false)) → ((b || is_drafted_name zs n) ≡ false) × (is_drafted_name ys n ≡ false)
        by true g rec = cc
        by false g rec = rec g

pub entry_at : (ss : List SymbolData) (i : ℕ) (s : SymbolData) → AreDistinctDraftNames (symbol_names ss) → slice_get ss i ≡ Some s → entry_or_undefined ss s.name ≡ s.entry
entry_at ss i s names e = ap (λ (o : Option SymbolData). unwrap_or (option_map (λ (t : SymbolData). t.entry) o) (record { place = None; is_global = false })) (find_own [] ss i s names e).1

-- ---- symbols of objects
kind_of : (name : List ℕ) (g : Bool) (o : Option Place) → (object_symbol name g o).kind ≡ 2 → (p : Place) × (o ≡ Some p) × (g ≡ true)
kind_of name g None e = cc
kind_of name true (Some p) e = (p, refl, refl)
kind_of name false (Some p) e = cc

name_of_symbol : (s : SymbolData) → (symbol_of s).name ≡ s.name
name_of_symbol s = by s.name s.entry.is_global s.entry.place
  where
    by : (name : List ℕ) (g : Bool) (o : Option Place) → (object_symbol name g o).name ≡ name
    by name g None = refl
    by name g (Some p) = refl

pub each_at : {A : Type 0} (P : A → Type 0) (xs : List A) (i : ℕ) (x : A) → EachInDraft P xs → slice_get xs i ≡ Some x → P x
each_at P [] i x h e = cc
each_at {A} P (y ∷ ys) zero x h e = let same : y ≡ x = cc in subst P same h.0
each_at P (y ∷ ys) (suc i) x h e = each_at P ys i x h.1 e

pub any_at : {A : Type 0} (p : A → Bool) (xs : List A) (i : ℕ) (x : A) → slice_get xs i ≡ Some x → p x ≡ true → list_any p xs ≡ true
any_at p [] i x e h = cc
any_at {A} p (y ∷ ys) zero x e h = let same : y ≡ x = cc in ap (λ b. b || list_any p ys) (ap p same ∙ h)
any_at p (y ∷ ys) (suc i) x e h = by (p y) (any_at p ys i x e h)
  where
    by : (b : Bool) → list_any p ys ≡ true → (b || list_any p ys) ≡ true
    by true f = refl
    by false f = f

pub part_there : (parts : List DraftSectionData) (n : ℕ) → n < length parts → (q : DraftSectionData) × (slice_get parts n ≡ Some q)
part_there [] n h = absurd (omega arith)
part_there (p ∷ ps) zero h = (p, refl)
part_there (p ∷ ps) (suc n) h = part_there ps n (omega arith)

-- ---- the address of a label
module _ (layout_places : List PlaceData) (sources : List (List ℕ)) (objects : List ObjectData) (are : AreObjects sources objects) (placeable : first_no_place_refusal layout_places objects ≡ None)
    (good : (i : ℕ) (source : List ℕ) → slice_get sources i ≡ Some source → IsWellFormedDraft (draft_in source)) where
  abbrev pub bases : ℕ → List ℕ → List ℕ
  bases i source = section_bases_after layout_places (placing.sections_to_link (take i objects)) (object_of_draft (draft_in source)).sections

  -- a section with a label has a base
  labelled : (i : ℕ) (source : List ℕ) (k : ℕ) (s : SymbolData) (p : Place) → slice_get sources i ≡ Some source → slice_get (draft_in source).symbols k ≡ Some s → s.entry.place ≡ Some p →
      SectionHasAddress layout_places sources i p.section (slice_index (bases i source) p.section)
  labelled i source k s p at there placed =
      let draft = good i source at in
      let P : Option Place → Type 0 = λ o. IsLabelPlaceIfAny (draft_in source).parts o in
      let stands : IsLabelPlace (draft_in source).parts p = subst P placed (each_at (λ (x : SymbolData). IsLabelPlaceIfAny (draft_in source).parts x.entry.place) (draft_in source).symbols k s draft.places there) in
      let part = part_there (draft_in source).parts p.section stands.section in
      let section : slice_get (map section_of (draft_in source).parts) p.section ≡ Some (section_of part.0) = map_get section_of (draft_in source).parts p.section part.0 part.1 in
      let own : slice_get (sections_in source) p.section ≡ Some (section_of part.0) = ap (λ (l : List SectionData). slice_get l p.section) (sections_are source) ∙ section in
      let symbol : slice_get (map symbol_of (draft_in source).symbols) k ≡ Some (symbol_of s) = map_get symbol_of (draft_in source).symbols k s there in
      let is_there : (not ((symbol_of s).kind == 0) && (symbol_of s).section == p.section) ≡ true
      = ap (λ (o : Option Place). not ((object_symbol s.name s.entry.is_global o).kind == 0) && (object_symbol s.name s.entry.is_global o).section == p.section) placed ∙ defined s.entry.is_global p in
      let used : has_symbol_in_section (map symbol_of (draft_in source).symbols) p.section ≡ true
      = any_at (λ (x : object.SymbolData). not (x.kind == 0) && x.section == p.section) (map symbol_of (draft_in source).symbols) k (symbol_of s) symbol is_there in
      let place = place_for layout_places objects i (object_of_draft (draft_in source)) p.section (section_of part.0) placeable (object_at sources objects i source are at) section
      (or_right (nat_lt 0 (length part.0.bytes)) (has_symbol_in_section (map symbol_of (draft_in source).symbols) p.section) used) in
      begins_at layout_places sources objects i source p.section (section_of part.0) place.0 are at own place.1
    where
      defined : (g : Bool) (q : Place) → (not ((cond g 2 1) == 0) && q.section == q.section) ≡ true
      defined true q = (Decides-eqb q.section q.section).1 refl
      defined false q = (Decides-eqb q.section q.section).1 refl

  -- the address of a label
  pub label_at : (i : ℕ) (source : List ℕ) (k : ℕ) (s : SymbolData) (p : Place) → slice_get sources i ≡ Some source → slice_get (draft_in source).symbols k ≡ Some s → s.entry.place ≡ Some p →
      LabelHasAddress layout_places sources i s.name (address_in_section (bases i source) p.section p.offset)
  label_at i source k s p at there placed = record {
    source = source;
    is_source = at;
    label = p;
    is_label = ap (λ (e : Entry). e.place) (entry_at (draft_in source).symbols k s (good i source at).symbols_named there) ∙ placed;
    base = slice_index (bases i source) p.section;
    begins = labelled i source k s p at there placed;
    is = refl;
  }

  -- ---- global symbols
  pub global_at : (name : List ℕ) (address : ℕ) → first_global_address (globals_of (placed_after layout_places [] objects)) name ≡ Some address → GlobalHasAddress layout_places sources name address
  unfolding globals_of
  global_at name address e =
      let f : PlacedData → List GlobalData = λ q. map (global_data q.bases) (filter is_global q.object.symbols) in
      let g = mapped (find (λ (x : GlobalData). bytes_eq name x.name) (flat_map f (placed_after layout_places [] objects))) address e in
      let found = find_at (λ (x : GlobalData). bytes_eq name x.name) (flat_map f (placed_after layout_places [] objects)) g.0 g.1 in
      let flat = flat_at f (placed_after layout_places [] objects) found.at g.0 found.is_item in
      let lent = placed_from layout_places [] objects flat.outer flat.item flat.is_item in
      let own = source_at sources objects flat.outer lent.0 are lent.1 in
      let item = map_at (global_data flat.item.bases) (filter is_global flat.item.object.symbols) flat.inner g.0 flat.is_inner in
      let passed = filter_at is_global flat.item.object.symbols flat.inner item.item item.is_item in
      let object_is : flat.item.object ≡ object_of_draft (draft_in own.0) = ap (λ (q : PlacedData). q.object) lent.2 ∙ own.2 in
      let bases_are : flat.item.bases ≡ bases flat.outer own.0 = ap (λ (q : PlacedData). q.bases) lent.2 ∙ ap (λ (o : ObjectData). section_bases_after layout_places (placing.sections_to_link (take flat.outer objects)) o.sections) own.2 in
      let symbol = map_at symbol_of (draft_in own.0).symbols passed.at item.item (ap (λ (o : ObjectData). slice_get o.symbols passed.at) (sym object_is) ∙ passed.is_item) in
      let kind = kind_of symbol.item.name symbol.item.entry.is_global symbol.item.entry.place ((Decides-eqb (symbol_of symbol.item).kind 2).0 (ap is_global symbol.is ∙ passed.holds)) in
      let same : name ≡ symbol.item.name
      = (bytes_eq-Decides name g.0.name).0 found.holds ∙ ap (λ (x : GlobalData). x.name) (sym item.is) ∙ ap (λ (x : object.SymbolData). x.name) (sym symbol.is) ∙ name_of_symbol symbol.item in
      let where_is : address_in_section (bases flat.outer own.0) kind.0.section kind.0.offset ≡ address
      = ap (λ (o : Option Place). address_in_section (bases flat.outer own.0) (object_symbol symbol.item.name symbol.item.entry.is_global o).section (object_symbol symbol.item.name symbol.item.entry.is_global o).offset) (sym kind.1)
      ∙ ap (λ (x : object.SymbolData). address_in_section (bases flat.outer own.0) x.section x.offset) symbol.is
      ∙ ap (λ (b : List ℕ). address_in_section b item.item.section item.item.offset) (sym bases_are)
      ∙ ap (λ (x : GlobalData). x.address) item.is ∙ g.2 in
      let entry = entry_at (draft_in own.0).symbols passed.at symbol.item (good flat.outer own.0 own.1).symbols_named symbol.is_item in
      record {
        number = flat.outer;
        stands = record {
          source = own.0;
          is_source = own.1;
          label = kind.0;
          is_label = ap (λ (n : List ℕ). place_in (symbols_in own.0) n) same ∙ ap (λ (x : Entry). x.place) entry ∙ kind.1;
          base = slice_index (bases flat.outer own.0) kind.0.section;
          begins = labelled flat.outer own.0 passed.at symbol.item kind.0 own.1 symbol.is_item kind.1;
          is = sym where_is;
        };
        is_global = ap (λ (n : List ℕ). (entry_or_undefined (symbols_in own.0) n).is_global) same ∙ ap (λ (x : Entry). x.is_global) entry ∙ kind.2;
      }
    where
      mapped : (o : Option GlobalData) (n : ℕ) → option_map (λ (x : GlobalData). x.address) o ≡ Some n → (x : GlobalData) × (o ≡ Some x) × (x.address ≡ n)
      mapped None n e = cc
      mapped (Some x) n e = (x, refl, cc)
