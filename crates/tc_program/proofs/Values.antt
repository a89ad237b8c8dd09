-- The values that relocations write are the addresses of names.
use Rattle.std.proofs.Common.{◌≡◌, ◌+◌, ◌&&◌, ◌==◌, ℕ, Bool, true, false, cond, List, [], ◌∷◌, ◌++◌, map, Option, Some, None, refl, sym, ap, subst, ◌∙◌, arith}
use Rattle.std.specs.Prelude.{slice_get, find, filter, count_by}
use Rattle.std.specs.Option.{option_map, option_map_or}
use Rattle.std.specs.Bool.{then_some}
use Rattle.std.specs.Str.{bytes_eq}
use Rattle.std.proofs.lemmas.Bool.Decides.{Decides-eqb}
use Rattle.std.proofs.lemmas.List.Folds.{find-append}
use Rattle.std.proofs.lemmas.List.Sums.{sum_by-cons, sum_by-append}
use Rattle.tc_object.specs.Objects.{SectionData, ObjectData}
use Rattle.tc_object.specs.Objects as object
use Rattle.tc_asm.specs.declared.symbols.Place.{Place}
use Rattle.tc_asm.specs.declared.symbols.Entry.{Entry}
use Rattle.tc_asm.specs.Symbols.{SymbolData, place_in}
use Rattle.tc_asm.specs.DraftInvariants.{IsWellFormedDraft}
use Rattle.tc_asm.specs.Objects.{object_symbol, symbol_of, object_of_draft}
use Rattle.tc_link.specs.Layouts.{PlaceData}
use Rattle.tc_link.specs.Refusals.{Refusal, missing, first_refusal_from, is_used_by_relocs, missing_symbol_refusal, first_missing_symbol_refusal, first_no_place_refusal}
use Rattle.tc_link.specs.GlobalSymbols.{has_global_name, count_globals_named, symbols_to_link, GlobalData, is_global, global_data, globals_of, first_global_address}
use Rattle.tc_link.specs.Placing.{placed_after, section_bases_after, address_in_section}
use Rattle.tc_link.specs.Relocated.{symbol_address}
use Rattle.tc_asm.specs.DraftedSources.{draft_in, symbols_in}
use Rattle.tc_program.specs.Addresses.{NameHasAddress, own, other}
use Rattle.tc_stmt.proofs.ListItems.{map_get}
use Rattle.tc_program.proofs.Bases.{none_at, none_parts}
use Rattle.tc_program.proofs.Sections.{AreObjects, object_at}
use Rattle.tc_program.proofs.Names.{entry_at, label_at, global_at, bases}

-- ---- a name that objects use and don't define is global in one
abbrev is_named : List ℕ → GlobalData → Bool
is_named name x = bytes_eq name x.name

none_in : (name b : List ℕ) (ss : List object.SymbolData) → find (is_named name) (map (global_data b) (filter is_global ss)) ≡ None → count_by (has_global_name name) ss ≡ 0
none_in name b [] e = refl
none_in name b (s ∷ ss) e = sum_by-cons (λ x. cond (has_global_name name x) 1 0) s ss ∙ by (is_global s) e (none_in name b ss)
  where
    by : (g : Bool) → find (is_named name) (map (global_data b) (cond g (s ∷ filter is_global ss) (filter is_global ss))) ≡ None
        → (find (is_named name) (map (global_data b) (filter is_global ss)) ≡ None → count_by (has_global_name name) ss ≡ 0) → cond (g && bytes_eq name s.name) 1 0 + count_by (has_global_name name) ss ≡ 0
    by false f rec = let z = rec f in omega arith
    by true f rec = by_name (bytes_eq name s.name) f
      where
        by_name : (t : Bool) → cond t (Some (global_data b s)) (find (is_named name) (map (global_data b) (filter is_global ss))) ≡ None → cond t 1 0 + count_by (has_global_name name) ss ≡ 0
        by_name true h = cc
        by_name false h = let z = rec h in omega arith

none_all : (name : List ℕ) (places : List PlaceData) (before : List SectionData) (objects : List ObjectData) → find (is_named name) (globals_of (placed_after places before objects)) ≡ None → count_globals_named objects name ≡ 0
unfolding globals_of placed_after count_globals_named
none_all name places before [] e = refl
none_all name places before (o ∷ os) e =
    let first : List GlobalData = map (global_data (section_bases_after places before o.sections)) (filter is_global o.symbols) in
    let rest : List GlobalData = globals_of (placed_after places (before ++ o.sections) os) in
    let parts = none_parts (find (is_named name) first) (find (is_named name) rest) (sym (find-append (is_named name) first rest) ∙ e) in
    let here = none_in name (section_bases_after places before o.sections) o.symbols parts.0 in
    let more = none_all name places (before ++ o.sections) os parts.1 in
    sum_by-append (λ x. cond (has_global_name name x) 1 0) o.symbols (symbols_to_link os) ∙ omega arith

unused : (a b c : Bool) (r : Refusal) → then_some (a && b && c) r ≡ None → a ≡ true → b ≡ true → c ≡ false
unused true true true r e h k = cc
unused true true false r e h k = refl
unused true false c r e h k = cc
unused false b c r e h k = cc

global_there : (places : List PlaceData) (objects : List ObjectData) (i : ℕ) (o : ObjectData) (k : ℕ) (x : object.SymbolData) → first_missing_symbol_refusal objects ≡ None → slice_get objects i ≡ Some o → slice_get o.symbols k ≡ Some x → x.kind ≡ 0 →
    is_used_by_relocs o.relocs k ≡ true → (a : ℕ) × (first_global_address (globals_of (placed_after places [] objects)) x.name ≡ Some a)
unfolding first_missing_symbol_refusal
global_there places objects i o k x e at there kind uses =
    let here : first_refusal_from (missing_symbol_refusal objects o.relocs) 0 o.symbols ≡ None = none_at (λ n (q : ObjectData). first_refusal_from (missing_symbol_refusal objects q.relocs) 0 q.symbols) 0 objects i o e at in
    let same : k ≡ 0 + k = omega arith in
    let mine : missing_symbol_refusal objects o.relocs k x ≡ None = ap (λ n. missing_symbol_refusal objects o.relocs n x) same ∙ none_at (missing_symbol_refusal objects o.relocs) 0 o.symbols k x here there in
    let some : (count_globals_named objects x.name == 0) ≡ false = unused (x.kind == 0) (is_used_by_relocs o.relocs k) (count_globals_named objects x.name == 0) (missing x.name) mine ((Decides-eqb x.kind 0).1 kind) uses in
    by (find (is_named x.name) (globals_of (placed_after places [] objects))) refl some
  where
    never : (n : ℕ) → n ≡ 0 → (n == 0) ≡ false → ⊥
    never n z f = let t = (Decides-eqb n 0).1 z in cc

    by : (g : Option GlobalData) → find (is_named x.name) (globals_of (placed_after places [] objects)) ≡ g → (count_globals_named objects x.name == 0) ≡ false
        → (a : ℕ) × (first_global_address (globals_of (placed_after places [] objects)) x.name ≡ Some a)
    by None f some = absurd (never (count_globals_named objects x.name) (none_all x.name places [] objects f) some)
    by (Some y) f some = (y.address, ap (option_map (λ (z : GlobalData). z.address)) f)

-- ---- the address of a symbol of a source
module _ (layout_places : List PlaceData) (sources : List (List ℕ)) (objects : List ObjectData) (are : AreObjects sources objects) (placeable : first_no_place_refusal layout_places objects ≡ None)
    (good : (i : ℕ) (source : List ℕ) → slice_get sources i ≡ Some source → IsWellFormedDraft (draft_in source)) (known : first_missing_symbol_refusal objects ≡ None) where
  abbrev globals : List GlobalData
  globals = globals_of (placed_after layout_places [] objects)

  abbrev own_bases : ℕ → List ℕ → List ℕ
  own_bases i source = bases layout_places sources objects are placeable good i source

  pub means_at : (i : ℕ) (source : List ℕ) (k : ℕ) (s : SymbolData) → slice_get sources i ≡ Some source → slice_get (draft_in source).symbols k ≡ Some s → is_used_by_relocs (object_of_draft (draft_in source)).relocs k ≡ true →
      NameHasAddress layout_places sources i s.name (symbol_address globals (own_bases i source) (symbol_of s))
  means_at i source k s at there uses = by s.entry.place refl
    where
      by_global : (g : Bool) (p : Place) → address_in_section (own_bases i source) p.section p.offset ≡ symbol_address globals (own_bases i source) (object_symbol s.name g (Some p))
      by_global true p = refl
      by_global false p = refl

      by : (o : Option Place) → s.entry.place ≡ o → NameHasAddress layout_places sources i s.name (symbol_address globals (own_bases i source) (object_symbol s.name s.entry.is_global o))
      by (Some p) e =
          let M : ℕ → Type 0 = λ n. NameHasAddress layout_places sources i s.name n in
          subst M (by_global s.entry.is_global p) (own (address_in_section (own_bases i source) p.section p.offset) (label_at layout_places sources objects are placeable good i source k s p at there e))
      by None e =
          let symbol = map_get symbol_of (draft_in source).symbols k s there in
          let x : object.SymbolData = symbol_of s in
          let kind : x.kind ≡ 0 = ap (λ (o : Option Place). (object_symbol s.name s.entry.is_global o).kind) e in
          let name : x.name ≡ s.name = ap (λ (o : Option Place). (object_symbol s.name s.entry.is_global o).name) e in
          let g = global_there layout_places objects i (object_of_draft (draft_in source)) k x known (object_at sources objects i source are at) symbol kind uses in
          let there_is : first_global_address globals s.name ≡ Some g.0 = ap (first_global_address globals) (sym name) ∙ g.1 in
          let M : ℕ → Type 0 = λ n. NameHasAddress layout_places sources i s.name n in
          let nowhere : place_in (symbols_in source) s.name ≡ None = ap (λ (y : Entry). y.place) (entry_at (draft_in source).symbols k s (good i source at).symbols_named there) ∙ e in
          subst M (sym (ap (λ (o : Option ℕ). option_map_or (λ a. a) o 0) there_is))
          (other source g.0 at nowhere (global_at layout_places sources objects are placeable good s.name g.0 there_is))
