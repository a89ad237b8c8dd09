-- The addresses of the sections of sources.
use Rattle.std.proofs.Common.{◌≡◌, ◌+◌, ◌&&◌, ◌||◌, ℕ, zero, suc, Bool, true, false, cond, List, [], ◌∷◌, ◌++◌, length, take, Option, Some, None, refl, sym, ap, ◌∙◌, arith, append_assoc, append-nil}
use Rattle.std.specs.Prelude.{slice_get, slice_index, nat_lt, not}
use Rattle.std.specs.Option.{option_map_or, option_or}
use Rattle.std.specs.Bool.{then_some}
use Rattle.std.specs.Str.{bytes_eq}
use Rattle.tc_object.specs.Objects.{SectionData, ObjectData}
use Rattle.tc_link.specs.Layouts.{PlaceData, has_place_for, place_of}
use Rattle.tc_link.specs.Placing.{PlacedData, section_base, section_bases_after, placed_after}
use Rattle.tc_link.specs.PlaceSizes.{next_multiple_of_4, used_place_size}
use Rattle.tc_link.specs.Placing as placing
use Rattle.tc_link.specs.Refusals.{Refusal, no_place, first_refusal_from, has_symbol_in_section, no_place_refusal, first_no_place_refusal}
use Rattle.tc_asm.specs.Objects.{object_of_draft}
use Rattle.tc_asm.specs.Statements.{sections_in}
use Rattle.tc_asm.specs.DraftedSources.{draft_in}
use Rattle.tc_program.specs.Addresses.{program_sections, SectionHasAddress}
use Rattle.tc_asm.proofs.SourceParts.{sections_are}
use Rattle.tc_program.proofs.Sections.{AreObjects, all_sections, objects_take}

-- ---- none of the items is refused
pub none_parts : {B : Type 0} (a b : Option B) → option_or a b ≡ None → (a ≡ None) × (b ≡ None)
none_parts None b e = (refl, e)
none_parts (Some x) b e = cc

pub none_at : {A B : Type 0} (f : ℕ → A → Option B) (n : ℕ) (xs : List A) (i : ℕ) (x : A) → first_refusal_from f n xs ≡ None → slice_get xs i ≡ Some x → f (n + i) x ≡ None
unfolding first_refusal_from
none_at f n [] i x e h = cc
none_at {A} {B} f n (y ∷ ys) zero x e h =
    let same : y ≡ x = cc in
    let none : n + 0 ≡ n = omega arith in
    ap (λ k. f k x) none ∙ ap (f n) (sym same) ∙ (none_parts (f n y) (first_refusal_from f (n + 1) ys) e).0
none_at {A} {B} f n (y ∷ ys) (suc i) x e h =
    let moved : n + suc i ≡ n + 1 + i = omega arith in
    ap (λ k. f k x) moved ∙ none_at f (n + 1) ys i x (none_parts (f n y) (first_refusal_from f (n + 1) ys) e).1 h

-- ---- the objects at their addresses
abbrev placed : ObjectData → List ℕ → PlacedData
placed o bases = record { object = o; bases = bases }

pub placed_at : (places : List PlaceData) (before : List SectionData) (objects : List ObjectData) (i : ℕ) (o : ObjectData) → slice_get objects i ≡ Some o →
    slice_get (placed_after places before objects) i ≡ Some (record { object = o; bases = section_bases_after places (before ++ placing.sections_to_link (take i objects)) o.sections })
unfolding placed_after
placed_at places before [] i o e = cc
placed_at places before (x ∷ xs) zero o e =
    let same : x ≡ o = cc in
    ap (λ (y : ObjectData). Some (placed y (section_bases_after places before y.sections))) same
    ∙ ap (λ (b : List SectionData). Some (placed o (section_bases_after places b o.sections))) (sym (append-nil before))
placed_at places before (x ∷ xs) (suc i) o e =
    placed_at places (before ++ x.sections) xs i o e
    ∙ ap (λ (b : List SectionData). Some (placed o (section_bases_after places b o.sections))) (append_assoc before x.sections (placing.sections_to_link (take i xs)))

pub placed_from : (places : List PlaceData) (before : List SectionData) (objects : List ObjectData) (i : ℕ) (p : PlacedData) → slice_get (placed_after places before objects) i ≡ Some p →
    (o : ObjectData) × (slice_get objects i ≡ Some o) × (p ≡ record { object = o; bases = section_bases_after places (before ++ placing.sections_to_link (take i objects)) o.sections })
unfolding placed_after
placed_from places before [] i p e = cc
placed_from places before (x ∷ xs) zero p e =
    let same : placed x (section_bases_after places before x.sections) ≡ p = cc in
    (x, refl, sym same ∙ ap (λ (b : List SectionData). placed x (section_bases_after places b x.sections)) (sym (append-nil before)))
placed_from places before (x ∷ xs) (suc i) p e =
    let rest = placed_from places (before ++ x.sections) xs i p e in
    (rest.0, rest.1, rest.2 ∙ ap (λ (b : List SectionData). placed rest.0 (section_bases_after places b rest.0.sections)) (append_assoc before x.sections (placing.sections_to_link (take i xs))))

pub placed_take : (places : List PlaceData) (before : List SectionData) (objects : List ObjectData) (i : ℕ) → take i (placed_after places before objects) ≡ placed_after places before (take i objects)
unfolding placed_after
placed_take places before [] zero = refl
placed_take places before [] (suc i) = refl
placed_take places before (x ∷ xs) zero = refl
placed_take places before (x ∷ xs) (suc i) = ap (λ (ps : List PlacedData). record { object = x; bases = section_bases_after places before x.sections } ∷ ps) (placed_take places (before ++ x.sections) xs i)

pub base_at : (places : List PlaceData) (before sections : List SectionData) (s : ℕ) (x : SectionData) → slice_get sections s ≡ Some x → slice_index (section_bases_after places before sections) s ≡ section_base places (before ++ take s sections) x
unfolding section_bases_after
base_at places before [] s x e = cc
base_at places before (y ∷ ys) zero x e =
    let same : y ≡ x = cc in
    ap (section_base places before) same ∙ ap (λ (b : List SectionData). section_base places b x) (sym (append-nil before))
base_at places before (y ∷ ys) (suc s) x e =
    base_at places (before ++ y ∷ []) ys s x e ∙ ap (λ (b : List SectionData). section_base places b x) (append_assoc before (y ∷ []) (take s ys))

-- ---- a section with bytes or a label has a place
place_there : (places : List PlaceData) (name : List ℕ) → has_place_for places name ≡ true → (p : PlaceData) × (place_of places name ≡ Some p)
place_there [] name e = cc
place_there (x ∷ xs) name e = by (bytes_eq name x.section) e (place_there xs name)
  where
    by : (b : Bool) → (b || has_place_for xs name) ≡ true → (has_place_for xs name ≡ true → (p : PlaceData) × (place_of xs name ≡ Some p)) → (p : PlaceData) × (cond b (Some x) (place_of xs name) ≡ Some p)
    by true f rec = (x, refl)
    by false f rec = rec f

refuted : (used placed : Bool) (r : Refusal) → then_some (used && not placed) r ≡ None → used ≡ true → placed ≡ true
refuted true true r e h = refl
refuted true false r e h = cc
refuted false placed r e h = cc

pub place_for : (places : List PlaceData) (objects : List ObjectData) (i : ℕ) (o : ObjectData) (s : ℕ) (x : SectionData) → first_no_place_refusal places objects ≡ None → slice_get objects i ≡ Some o → slice_get o.sections s ≡ Some x →
    (nat_lt 0 (length x.bytes) || has_symbol_in_section o.symbols s) ≡ true → (p : PlaceData) × (place_of places x.name ≡ Some p)
unfolding first_no_place_refusal
place_for places objects i o s x e at there needs =
    let here : first_refusal_from (no_place_refusal places o.symbols) 0 o.sections ≡ None = none_at (λ n (q : ObjectData). first_refusal_from (no_place_refusal places q.symbols) 0 q.sections) 0 objects i o e at in
    let own : no_place_refusal places o.symbols s x ≡ None
    = (let same : s ≡ 0 + s = omega arith in ap (λ k. no_place_refusal places o.symbols k x) same) ∙ none_at (no_place_refusal places o.symbols) 0 o.sections s x here there in
    place_there places x.name (refuted (nat_lt 0 (length x.bytes) || has_symbol_in_section o.symbols s) (has_place_for places x.name) (no_place x.name) own needs)

-- ---- the base of a section
pub begins_at : (places : List PlaceData) (sources : List (List ℕ)) (objects : List ObjectData) (i : ℕ) (source : List ℕ) (s : ℕ) (x : SectionData) (p : PlaceData) → AreObjects sources objects → slice_get sources i ≡ Some source →
    slice_get (sections_in source) s ≡ Some x → place_of places x.name ≡ Some p →
    SectionHasAddress places sources i s (slice_index (section_bases_after places (placing.sections_to_link (take i objects)) (object_of_draft (draft_in source)).sections) s)
begins_at places sources objects i source s x p are at there is =
    let same : sections_in source ≡ (object_of_draft (draft_in source)).sections = sections_are source in
    let earlier : placing.sections_to_link (take i objects) ≡ program_sections (take i sources) = sym (all_sections (take i sources) (take i objects) (objects_take sources objects i are)) in
    record {
      source = source;
      is_source = at;
      data_of = x;
      is_section = there;
      place = p;
      is_place = is;
      is = ap (λ (l : List SectionData). slice_index (section_bases_after places (placing.sections_to_link (take i objects)) l) s) (sym same)
          ∙ base_at places (placing.sections_to_link (take i objects)) (sections_in source) s x there
          ∙ ap (λ (b : List SectionData). section_base places (b ++ take s (sections_in source)) x) earlier
          ∙ ap (λ (o : Option PlaceData). option_map_or (λ q. q.at + next_multiple_of_4 (used_place_size x.name (program_sections (take i sources) ++ take s (sections_in source)))) o 0) is;
    }
