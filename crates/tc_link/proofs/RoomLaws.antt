-- Sections in a place, one after another.
use Rattle.std.proofs.Common.{◌≡◌, ◌+◌, ◌-◌, ◌<◌, ◌≤◌, ◌∷◌, ◌++◌, ◌||◌, ◌^◌, [], ℕ, zero, suc, Bool, true, false, ltb, List, length, map, set, take, drop, get_or, replicate, inl, inr, ◌⊎◌, Option, Some, None, refl, sym, ap, ◌∙◌, subst, arith, append_assoc}
use Rattle.std.proofs.lemmas.List.{append-nil, take_more, take-append-drop, length-map, get_or-map}
use Rattle.std.proofs.lemmas.List.Sums.{fold-append, sum-map, sum_by-set}
use Rattle.std.proofs.lemmas.List.Concat.{flat_map-append}
use Rattle.std.specs.Prelude.{find, position, sum}
use Rattle.std.specs.Option.{option_or, option_map_or}
use Rattle.std.specs.List.{flat_map, position_or_len, list_any, sum_by}
use Rattle.std.specs.Str.{bytes_eq}
use Rattle.std.proofs.lemmas.Slice.Eq.{bytes_eq-Decides}
use Rattle.std.proofs.lemmas.Bool.{ltb-true, ltb-false, le-ltb, lt-ltb}
use Rattle.std.proofs.lemmas.Option.{slice_get-get_or, slice_get_past, cond_some}
use Rattle.std.proofs.lemmas.List.Folds.{find_at}
use Rattle.tc_object.specs.Objects.{SectionData, ObjectData}
use Rattle.std.proofs.lemmas.List.Quantifiers.{position-Some}
use Rattle.tc_link.specs.Layouts.{PlaceData, LayoutData, IsLayout, has_place_for}
use Rattle.tc_link.specs.Placing.{PlacedData, sections_to_link, section_base, section_bases_after, placed_after}
use Rattle.tc_link.specs.PlaceSizes.{next_multiple_of_4, used_size_with_section, used_place_size, has_region_overflow, total_used_size}
use Rattle.tc_link.specs.Refusals.{Refusal, no_room, no_room_refusal, first_no_room_refusal}
use Rattle.std.specs.Bool.{then_some}
use Rattle.std.proofs.lemmas.Bool.Decides.{nat_tests}
use Rattle.tc_link.proofs.FirstLaws.{none_first}
use Rattle.tc_link.proofs.GlobalLaws.{or_none}
use Rattle.tc_link.proofs.PlaceLaws.{IsOnly, the_only, none_from, or_false, or_right, each_kept, each_grown}

pub taken_none : (name : List ℕ) → used_place_size name [] ≡ 0
unfolding used_place_size
taken_none name = refl

-- a further section
pub taken_more : (name : List ℕ) (before : List SectionData) (s : SectionData) → used_place_size name (before ++ s ∷ []) ≡ used_size_with_section name (used_place_size name before) s
unfolding used_place_size
taken_more name before s = fold-append (used_size_with_section name) 0 before (s ∷ [])

pub bases_push : (places : List PlaceData) (before ss : List SectionData) (s : SectionData) → section_bases_after places before (ss ++ s ∷ []) ≡ section_bases_after places before ss ++ section_base places (before ++ ss) s ∷ []
unfolding section_bases_after
bases_push places before [] s = ap (λ (b : List SectionData). section_base places b s ∷ []) (sym (append-nil before))
bases_push places before (x ∷ xs) s =
    ap (λ (bs : List ℕ). section_base places before x ∷ bs) (bases_push places (before ++ x ∷ []) xs s)
    ∙ ap (λ (b : List SectionData). section_base places before x ∷ (section_bases_after places (before ++ x ∷ []) xs ++ section_base places b s ∷ [])) (append_assoc before (x ∷ []) xs)

or_assoc : {A : Type 0} (a b c : Option A) → option_or a (option_or b c) ≡ option_or (option_or a b) c
or_assoc None b c = refl
or_assoc (Some x) b c = refl

-- sections in two parts
pub no_room_parts : (places : List PlaceData) (before xs ys : List SectionData) → first_no_room_refusal places before (xs ++ ys) ≡ option_or (first_no_room_refusal places before xs) (first_no_room_refusal places (before ++ xs) ys)
unfolding first_no_room_refusal
no_room_parts places before [] ys = ap (λ (b : List SectionData). first_no_room_refusal places b ys) (sym (append-nil before))
no_room_parts places before (x ∷ xs) ys =
    ap (option_or (no_room_refusal places before x)) (no_room_parts places (before ++ x ∷ []) xs ys)
    ∙ or_assoc (no_room_refusal places before x) (first_no_room_refusal places (before ++ x ∷ []) xs) (first_no_room_refusal places ((before ++ x ∷ []) ++ xs) ys)
    ∙ ap (λ (b : List SectionData). option_or (option_or (no_room_refusal places before x) (first_no_room_refusal places (before ++ x ∷ []) xs)) (first_no_room_refusal places b ys)) (append_assoc before (x ∷ []) xs)

none_or : {A : Type 0} (a b : Option A) → a ≡ None → option_or a b ≡ b
none_or a b e = ap (λ (o : Option _). option_or o b) e

-- room so far, and the answer of a further section
pub no_room_push : (places : List PlaceData) (before ss : List SectionData) (s : SectionData) → first_no_room_refusal places before ss ≡ None → first_no_room_refusal places before (ss ++ s ∷ []) ≡ no_room_refusal places (before ++ ss) s
unfolding first_no_room_refusal
no_room_push places before ss s e = no_room_parts places before ss (s ∷ []) ∙ none_or _ _ e ∙ sym (or_none (no_room_refusal places (before ++ ss) s))

-- no room in the first part is none in the whole
pub no_room_front : (places : List PlaceData) (before xs ys : List SectionData) (r : Refusal) → first_no_room_refusal places before xs ≡ Some r → first_no_room_refusal places before (xs ++ ys) ≡ Some r
no_room_front places before xs ys r e = no_room_parts places before xs ys ∙ ap (λ (o : Option Refusal). option_or o (first_no_room_refusal places (before ++ xs) ys)) e

pub placed_push : (places : List PlaceData) (before : List SectionData) (os : List ObjectData) (o : ObjectData)
    → placed_after places before (os ++ o ∷ []) ≡ placed_after places before os ++ record { object = o; bases = section_bases_after places (before ++ sections_to_link os) o.sections } ∷ []
unfolding placed_after
placed_push places before [] o = ap (λ (b : List SectionData). record { object = o; bases = section_bases_after places b o.sections } ∷ []) (sym (append-nil before))
placed_push places before (x ∷ xs) o =
    ap (λ (ps : List PlacedData). record { object = x; bases = section_bases_after places before x.sections } ∷ ps) (placed_push places (before ++ x.sections) xs o)
    ∙ ap (λ (b : List SectionData). record { object = x; bases = section_bases_after places before x.sections } ∷ (placed_after places (before ++ x.sections) xs ++ record { object = o; bases = section_bases_after places b o.sections } ∷ [])) (append_assoc before x.sections (sections_to_link xs))

-- ---- the end
then_none : {A : Type 0} (b : Bool) (x : A) → then_some b x ≡ None → b ≡ false
then_none true x e = cc
then_none false x e = refl

-- if there is room for each section, there is room for all
pub room_end : (places : List PlaceData) (before ss : List SectionData) → has_region_overflow places before ≡ false → first_no_room_refusal places before ss ≡ None → has_region_overflow places (before ++ ss) ≡ false
unfolding first_no_room_refusal
room_end places before [] room e = ap (has_region_overflow places) (append-nil before) ∙ room
room_end places before (s ∷ ss) room e =
    let p = none_first (no_room_refusal places before s) (first_no_room_refusal places (before ++ s ∷ []) ss) e in
    ap (has_region_overflow places) (sym (append_assoc before (s ∷ []) ss)) ∙ room_end places (before ++ s ∷ []) ss (then_none _ _ p.0) p.1

never_below : (n : ℕ) → ltb n 0 ≡ false
never_below n = grind (arith, nat_tests)

none_over : (places : List PlaceData) → (list_any (λ p. ltb p.most (used_place_size p.section [])) places ≡ false) × (sum_by (λ p. used_place_size p.section []) places ≡ 0)
unfolding used_place_size
none_over [] = (refl, refl)
none_over (p ∷ ps) =
    let rest = none_over ps in
    (ap (λ b. b || list_any (λ q. ltb q.most (used_place_size q.section [])) ps) (never_below p.most) ∙ rest.0, omega (arith, rest.1))

pub room_start : (places : List PlaceData) → has_region_overflow places [] ≡ false
unfolding has_region_overflow total_used_size
room_start places =
    let n = none_over places in
    ap (λ b. b || ltb (2 ^ 24) (sum_by (λ p. used_place_size p.section []) places)) n.0 ∙ ap (ltb (2 ^ 24)) n.1

-- ---- the place of a name
pub find_none : {A : Type 0} (p : A → Bool) (xs : List A) → position p xs ≡ None → find p xs ≡ None
find_none p xs e =
    find_at p xs ∙ slice_get_past xs (position_or_len p xs) (ltb-false _ _ (none_from (ltb (position_or_len p xs) (length xs)) (position_or_len p xs) e))

pub find_some : {A : Type 0} (p : A → Bool) (xs : List A) (i : ℕ) (d : A) → position p xs ≡ Some i → find p xs ≡ Some (get_or xs i d)
find_some {A} p xs i d e =
    let w = cond_some (ltb (position_or_len p xs) (length xs)) (position_or_len p xs) i e in
    find_at p xs ∙ slice_get-get_or xs (position_or_len p xs) d (ltb-true _ _ w.0) ∙ ap (λ k. Some (get_or xs k d)) w.1

pub base_none : (places : List PlaceData) (before : List SectionData) (s : SectionData) → position (λ p. bytes_eq s.name p.section) places ≡ None → 0 ≡ section_base places before s
base_none places before s e = sym (ap (λ (o : Option PlaceData). option_map_or (λ p. p.at + next_multiple_of_4 (used_place_size s.name before)) o 0) (find_none (λ p. bytes_eq s.name p.section) places e))

-- ---- the bytes in use
-- the number of bytes of each place that these sections use
abbrev pub sizes_of : List PlaceData → List SectionData → List ℕ
sizes_of places sections = map (λ p. used_place_size p.section sections) places

-- there is room for these sections, which use these numbers of bytes of the places
pub record HaveRoom (places : List PlaceData) (ss : List SectionData) (sizes : List ℕ) (total : ℕ) : Type 0 where
  pub none : first_no_room_refusal places [] ss ≡ None
  pub each : sizes ≡ sizes_of places ss
  pub all : total ≡ sum sizes
  pub small : total ≤ 2 ^ 24

sizes_none : (places : List PlaceData) → replicate (length places) 0 ≡ sizes_of places []
sizes_none [] = refl
sizes_none (p ∷ ps) = ap (λ n. n ∷ replicate (length ps) 0) (sym (taken_none p.section)) ∙ ap (λ (l : List ℕ). used_place_size p.section [] ∷ l) (sizes_none ps)

pub room_of_none : (places : List PlaceData) (sizes : List ℕ) → sizes ≡ replicate (length places) 0 → HaveRoom places [] sizes 0
unfolding first_no_room_refusal
room_of_none places sizes e =
    let same : sizes ≡ sizes_of places [] = e ∙ sizes_none places in
    record { none = refl; each = same; all = sym (ap sum same ∙ sum-map (λ (p : PlaceData). used_place_size p.section []) places ∙ (none_over places).1); small = omega arith }

many_sizes : (places : List PlaceData) (ss : List SectionData) (sizes : List ℕ) → sizes ≡ sizes_of places ss → length sizes ≡ length places
many_sizes places ss sizes e = ap (λ (l : List ℕ). length l) e ∙ length-map places (λ (p : PlaceData). used_place_size p.section ss)

-- one of the places has fewer bytes than are in use
abbrev is_one_over : List PlaceData → List ℕ → Bool
is_one_over [] ns = false
is_one_over (p ∷ ps) [] = false
is_one_over (p ∷ ps) (n ∷ ns) = ltb p.most n || is_one_over ps ns

over_each : (places : List PlaceData) (ss : List SectionData) → list_any (λ p. ltb p.most (used_place_size p.section ss)) places ≡ is_one_over places (sizes_of places ss)
over_each [] ss = refl
over_each (p ∷ ps) ss = ap (λ b. ltb p.most (used_place_size p.section ss) || b) (over_each ps ss)

over_by : (places : List PlaceData) (ss : List SectionData) (sizes : List ℕ) → sizes ≡ sizes_of places ss → has_region_overflow places ss ≡ (is_one_over places sizes || ltb (2 ^ 24) (sum sizes))
unfolding has_region_overflow total_used_size
over_by places ss sizes e =
    ap (λ b. b || ltb (2 ^ 24) (sum_by (λ p. used_place_size p.section ss) places)) (over_each places ss)
    ∙ ap (λ n. is_one_over places (sizes_of places ss) || ltb (2 ^ 24) n) (sym (sum-map (λ (p : PlaceData). used_place_size p.section ss) places))
    ∙ ap (λ (l : List ℕ). is_one_over places l || ltb (2 ^ 24) (sum l)) (sym e)

over_set : (places : List PlaceData) (ns : List ℕ) (i n : ℕ) (d : PlaceData) → i < length places → length ns ≡ length places → is_one_over places ns ≡ false → is_one_over places (set ns i n) ≡ ltb (get_or places i d).most n
over_set [] ns i n d h many e = absurd (omega arith)
over_set (p ∷ ps) [] i n d h many e = absurd (omega arith)
over_set (p ∷ ps) (m ∷ ns) zero n d h many e = ap (λ b. ltb p.most n || b) (or_false (ltb p.most m) (is_one_over ps ns) e).1 ∙ (or_right (ltb p.most n)).1
over_set (p ∷ ps) (m ∷ ns) (suc i) n d h many e =
    let parts = or_false (ltb p.most m) (is_one_over ps ns) e in
    ap (λ b. b || is_one_over ps (set ns i n)) parts.0 ∙ over_set ps ns i n d (omega arith) (omega arith) parts.1

-- a section in its place, whose bytes in use grow to `size`
abbrev grown_size : ℕ → SectionData → ℕ
grown_size n s = next_multiple_of_4 n + length s.bytes

pub record IsSize (places : List PlaceData) (s : SectionData) (sizes : List ℕ) (i : ℕ) (p : PlaceData) (used size : ℕ) : Type 0 where
  pub first : position (λ q. bytes_eq s.name q.section) places ≡ Some i
  pub only : IsOnly s.name places i
  pub is : p ≡ get_or places i p
  pub old : used ≡ get_or sizes i used
  pub new : size ≡ grown_size used s

pub is_size : (layout : LayoutData) (s : SectionData) (sizes : List ℕ) (i : ℕ) (p : PlaceData) (used : ℕ) → IsLayout layout → position (λ q. bytes_eq s.name q.section) layout.places ≡ Some i → p ≡ get_or layout.places i p → used ≡ get_or sizes i used → IsSize layout.places s sizes i p used (grown_size used s)
is_size layout s sizes i p used good first is old = record { first = first; only = the_only s.name layout.places i good.places first; is = is; old = old; new = refl }

-- a section begins after the earlier sections of its place
pub base_some : (places : List PlaceData) (ss : List SectionData) (s : SectionData) (sizes : List ℕ) (i : ℕ) (p : PlaceData) (used size : ℕ) → sizes ≡ sizes_of places ss → IsSize places s sizes i p used size
    → p.at + next_multiple_of_4 used ≡ section_base places ss s
base_some places ss s sizes i p used size e h =
    let at = position-Some (λ q. bytes_eq s.name q.section) places i p h.first in
    ap (λ n. p.at + next_multiple_of_4 n) (h.old ∙ ap (λ (l : List ℕ). get_or l i used) e ∙ get_or-map (λ (q : PlaceData). used_place_size q.section ss) places i p used at.0
    ∙ ap (λ (name : List ℕ). used_place_size name ss) (sym ((bytes_eq-Decides s.name (get_or places i p).section).0 at.1)))
    ∙ sym (ap (λ (o : Option PlaceData). option_map_or (λ q. q.at + next_multiple_of_4 (used_place_size s.name ss)) o 0) (find_some (λ q. bytes_eq s.name q.section) places i p h.first ∙ ap (λ (q : PlaceData). Some q) (sym h.is)))

new_sizes : (places : List PlaceData) (ss : List SectionData) (s : SectionData) (sizes : List ℕ) (i : ℕ) (p : PlaceData) (used size : ℕ) → sizes ≡ sizes_of places ss → IsSize places s sizes i p used size → set sizes i size ≡ sizes_of places (ss ++ s ∷ [])
new_sizes places ss s sizes i p used size e h =
    ap (λ n. set sizes i n) (h.new ∙ ap (λ n. grown_size n s) h.old)
    ∙ ap (λ (l : List ℕ). set l i (grown_size (get_or l i used) s)) e
    ∙ sym (each_grown (λ before q. used_place_size q.section before) grown_size (λ before x q. taken_more q.section before x) ss s places i used h.only)

new_total : (places : List PlaceData) (s : SectionData) (sizes : List ℕ) (total i : ℕ) (p : PlaceData) (used size : ℕ) → i < length sizes → total ≡ sum sizes → IsSize places s sizes i p used size → total + (size - used) ≡ sum (set sizes i size)
new_total places s sizes total i p used size within e h = omega (arith, sum_by-set (λ n. n) sizes i size used within, e, h.old, h.new)

-- whether there is room for the section too
room_after : (places : List PlaceData) (ss : List SectionData) (s : SectionData) (sizes : List ℕ) (total i : ℕ) (p : PlaceData) (used size : ℕ) → HaveRoom places ss sizes total → IsSize places s sizes i p used size
    → first_no_room_refusal places [] (ss ++ s ∷ []) ≡ then_some (ltb p.most size || ltb (2 ^ 24) (total + (size - used))) (no_room s.name)
room_after places ss s sizes total i p used size room h =
    let within : i < length places = (position-Some (λ q. bytes_eq s.name q.section) places i p h.first).0 in
    let many : length sizes ≡ length places = many_sizes places ss sizes room.each in
    let before = or_false (is_one_over places sizes) (ltb (2 ^ 24) (sum sizes)) (sym (over_by places ss sizes room.each) ∙ room_end places [] ss (room_start places) room.none) in
    no_room_push places [] ss s room.none
    ∙ ap (λ b. then_some b (no_room s.name))
    (over_by places (ss ++ s ∷ []) (set sizes i size) (new_sizes places ss s sizes i p used size room.each h)
    ∙ ap (λ b. b || ltb (2 ^ 24) (sum (set sizes i size))) (over_set places sizes i size p within many before.0 ∙ ap (λ (q : PlaceData). ltb q.most size) (sym h.is))
    ∙ ap (λ n. ltb p.most size || ltb (2 ^ 24) n) (sym (new_total places s sizes total i p used size (omega (arith, within, many)) room.all h)))

pub room_more : (places : List PlaceData) (ss : List SectionData) (s : SectionData) (sizes : List ℕ) (total i : ℕ) (p : PlaceData) (used size : ℕ) → HaveRoom places ss sizes total → IsSize places s sizes i p used size
    → size ≤ p.most → total + (size - used) ≤ 2 ^ 24 → HaveRoom places (ss ++ s ∷ []) (set sizes i size) (total + (size - used))
room_more places ss s sizes total i p used size room h fits small = record {
  none = room_after places ss s sizes total i p used size room h ∙ ap (λ b. then_some (b || ltb (2 ^ 24) (total + (size - used))) (no_room s.name)) (le-ltb _ _ fits) ∙ ap (λ b. then_some b (no_room s.name)) (le-ltb _ _ small);
  each = new_sizes places ss s sizes i p used size room.each h;
  all = new_total places s sizes total i p used size (omega (arith, many_sizes places ss sizes room.each, (position-Some (λ q. bytes_eq s.name q.section) places i p h.first).0)) room.all h;
  small = small;
}

over_either : (most size n : ℕ) → (most < size) ⊎ ((size ≤ most) × (2 ^ 24 < n)) → (ltb most size || ltb (2 ^ 24) n) ≡ true
over_either most size n (inl h) = ap (λ b. b || ltb (2 ^ 24) n) (lt-ltb most size h)
over_either most size n (inr h) = ap (λ b. b || ltb (2 ^ 24) n) (le-ltb most size h.0) ∙ lt-ltb (2 ^ 24) n h.1

pub room_fault : (places : List PlaceData) (ss : List SectionData) (s : SectionData) (sizes : List ℕ) (total i : ℕ) (p : PlaceData) (used size most : ℕ) → HaveRoom places ss sizes total → IsSize places s sizes i p used size
    → most ≡ p.most → (most < size) ⊎ ((size ≤ most) × (2 ^ 24 < total + (size - used))) → first_no_room_refusal places [] (ss ++ s ∷ []) ≡ Some (no_room s.name)
room_fault places ss s sizes total i p used size most room h e over =
    room_after places ss s sizes total i p used size room h ∙ ap (λ b. then_some b (no_room s.name)) (ap (λ m. ltb m size || ltb (2 ^ 24) (total + (size - used))) (sym e) ∙ over_either most size (total + (size - used)) over)

-- a section without a place takes no room
pub room_unplaced : (places : List PlaceData) (ss : List SectionData) (s : SectionData) (sizes : List ℕ) (total : ℕ) → HaveRoom places ss sizes total → has_place_for places s.name ≡ false → HaveRoom places (ss ++ s ∷ []) sizes total
room_unplaced places ss s sizes total room out =
    let same : sizes ≡ sizes_of places (ss ++ s ∷ []) = room.each ∙ sym (each_kept (λ before q. used_place_size q.section before) grown_size (λ before x q. taken_more q.section before x) ss s places out) in
    record {
      none = no_room_push places [] ss s room.none ∙ ap (λ b. then_some b (no_room s.name)) (over_by places (ss ++ s ∷ []) sizes same ∙ sym (over_by places ss sizes room.each) ∙ room_end places [] ss (room_start places) room.none);
      each = same;
      all = room.all;
      small = room.small;
    }

-- ---- one item more
pub take_next : {A : Type 0} (xs : List A) (i : ℕ) (x : A) → i < length xs → x ≡ get_or xs i x → take (i + 1) xs ≡ take i xs ++ x ∷ []
take_next {A} xs i x h is = take_more xs i x h ∙ ap (λ (y : A). take i xs ++ y ∷ []) (sym is)

pub bases_step : (places : List PlaceData) (before sections : List SectionData) (i : ℕ) (s : SectionData) (base : ℕ) (old : List ℕ) → i < length sections → s ≡ get_or sections i s
    → old ≡ section_bases_after places before (take i sections) → base ≡ section_base places (before ++ take i sections) s → old ++ base ∷ [] ≡ section_bases_after places before (take (i + 1) sections)
bases_step places before sections i s base old h is e b =
    ap (λ n. old ++ n ∷ []) b
    ∙ ap (λ (bs : List ℕ). bs ++ section_base places (before ++ take i sections) s ∷ []) e
    ∙ sym (bases_push places before (take i sections) s)
    ∙ ap (section_bases_after places before) (sym (take_next sections i s h is))

pub room_step : (places : List PlaceData) (before sections : List SectionData) (i : ℕ) (s : SectionData) (sizes : List ℕ) (total : ℕ) → i < length sections → s ≡ get_or sections i s
    → HaveRoom places ((before ++ take i sections) ++ s ∷ []) sizes total → HaveRoom places (before ++ take (i + 1) sections) sizes total
room_step places before sections i s sizes total h is room = subst (λ (l : List SectionData). HaveRoom places l sizes total) (append_assoc before (take i sections) (s ∷ []) ∙ ap (λ (l : List SectionData). before ++ l) (sym (take_next sections i s h is))) room

-- ---- objects
pub sections_next : (objects : List ObjectData) (i : ℕ) (o : ObjectData) → i < length objects → o ≡ get_or objects i o → sections_to_link (take (i + 1) objects) ≡ sections_to_link (take i objects) ++ o.sections
sections_next objects i o h is =
    let f : ObjectData → List SectionData = λ x. x.sections in
    ap (flat_map f) (take_next objects i o h is)
    ∙ flat_map-append f (take i objects) (o ∷ [])
    ∙ ap (λ (ss : List SectionData). flat_map f (take i objects) ++ ss) (append-nil o.sections)

pub sections_rest : (objects : List ObjectData) (i : ℕ) (o : ObjectData) → i < length objects → o ≡ get_or objects i o
    → sections_to_link objects ≡ (sections_to_link (take i objects) ++ o.sections) ++ sections_to_link (drop (i + 1) objects)
sections_rest objects i o h is =
    let f : ObjectData → List SectionData = λ x. x.sections in
    ap (flat_map f) (sym (take-append-drop (i + 1) objects))
    ∙ flat_map-append f (take (i + 1) objects) (drop (i + 1) objects)
    ∙ ap (λ (ss : List SectionData). ss ++ flat_map f (drop (i + 1) objects)) (sections_next objects i o h is)

pub placed_next : (places : List PlaceData) (objects : List ObjectData) (i : ℕ) (o : ObjectData) (old : List PlacedData) (bases : List ℕ) → i < length objects → o ≡ get_or objects i o
    → old ≡ placed_after places [] (take i objects) → bases ≡ section_bases_after places (sections_to_link (take i objects)) o.sections
    → old ++ record { object = o; bases = bases } ∷ [] ≡ placed_after places [] (take (i + 1) objects)
placed_next places objects i o old bases h is e b =
    ap (λ (bs : List ℕ). old ++ record { object = o; bases = bs } ∷ []) b
    ∙ ap (λ (ps : List PlacedData). ps ++ record { object = o; bases = section_bases_after places (sections_to_link (take i objects)) o.sections } ∷ []) e
    ∙ sym (placed_push places [] (take i objects) o)
    ∙ ap (placed_after places []) (sym (take_next objects i o h is))

-- a section without room is the refusal of all objects
pub room_told : (places : List PlaceData) (objects : List ObjectData) (i k : ℕ) (o : ObjectData) (s : SectionData) (r : Refusal) → i < length objects → o ≡ get_or objects i o → k < length o.sections → s ≡ get_or o.sections k s
    → first_no_room_refusal places [] ((sections_to_link (take i objects) ++ take k o.sections) ++ s ∷ []) ≡ Some r → first_no_room_refusal places [] (sections_to_link objects) ≡ Some r
room_told places objects i k o s r h is within at e =
    let before : List SectionData = sections_to_link (take i objects) in
    let rest : List SectionData = drop (k + 1) o.sections ++ sections_to_link (drop (i + 1) objects) in
    let parts : sections_to_link objects ≡ ((before ++ take k o.sections) ++ s ∷ []) ++ rest =
    sections_rest objects i o h is
    ∙ ap (λ (l : List SectionData). (before ++ l) ++ sections_to_link (drop (i + 1) objects)) (sym (take-append-drop (k + 1) o.sections) ∙ ap (λ (l : List SectionData). l ++ drop (k + 1) o.sections) (take_next o.sections k s within at))
    ∙ simp append_assoc in
    ap (first_no_room_refusal places []) parts ∙ no_room_front places [] ((before ++ take k o.sections) ++ s ∷ []) rest r e
