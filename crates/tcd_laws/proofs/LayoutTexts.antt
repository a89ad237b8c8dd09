-- What a text gives without a fault is a layout.
use Rattle.std.proofs.Common.{◌≡◌, ◌<◌, ◌≤◌, ◌+◌, ◌%◌, ◌^◌, ◌==◌, ◌&&◌, ℕ, Bool, true, false, cond, List, [], ◌∷◌, ◌++◌, length, nat_le, Option, Some, None, Ok, refl, sym, ap, subst, ◌∙◌, arith, append-nil, append_assoc, length-append}
use Rattle.std.specs.Prelude.{All, codes}
use Rattle.std.specs.Bool.{then_some}
use Rattle.std.specs.Option.{option_or, option_map, option_and_then, option_to_list}
use Rattle.std.specs.List.{filter_map, cons_option, list_any, list_all}
use Rattle.std.specs.Str.{bytes_eq}
use Rattle.std.specs.Str.Parse.{digits_value, AllDigits}
use Rattle.std.proofs.lemmas.Bool.{and_parts, eqb-true, ltb-true, leb-true, leb-false}
use Rattle.std.proofs.lemmas.Int.Digits.{digits_value-lt}
use Rattle.std.proofs.lemmas.List.Elements.{All-nil, All-head, All-push, filter_map-append}
use Rattle.tcd_text.specs.Lines.{line_words, text_lines}
use Rattle.tcd_text.specs.HexNumbers.{hex_number_of, is_upper_hex}
use Rattle.tc_object.specs.Names.{is_name_length, is_object_name, object_name_of}
use Rattle.tc_object.specs.Objects.{AllInTurn}
use Rattle.tc_link.specs.Layouts.{PlaceData, LayoutData, IsPlace, IsPlaceAfter, IsLayout, are_overlapping_places, has_place_for}
use Rattle.tc_link.specs.LayoutLines.{LayoutLineData, blank, entry, place, place_of_words, layout_line_of_words, layout_line_contents, entry_in_line, place_in_line, entries_in_lines, places_in_lines, IsValidLayoutLine}
use Rattle.tcd_base.specs.Refusing.{unless_refused}
use Rattle.tc_link.specs.LayoutFaults.{layout_line_fault, first_layout_fault}
use Rattle.tc_link.specs.LayoutDrafts.{finished_layout, LayoutDraftData, IsLayoutDraft, draft_with_line}
use Rattle.tc_link.specs.declared.layout_errors.LayoutErr.{LayoutErr}
use Rattle.tc_link.proofs.TurnLaws.{turn_push}
use Rattle.tcd_laws.specs.LimitsKept.{TextsGiveLayouts}

-- ---- numbers and names
all_digits : (cs : List ℕ) → list_all is_upper_hex cs ≡ true → AllDigits 16 cs
all_digits [] e = tt
all_digits (c ∷ cs) e = let p = and_parts _ _ e in (ltb-true _ _ (and_parts _ _ p.0).0, all_digits cs p.1)

-- a value that passed two tests
chosen : (a b : Bool) (n d : ℕ) → then_some (a && b) n ≡ Some d → (a ≡ true) × (b ≡ true) × (n ≡ d)
chosen true true n d e = (refl, refl, cc)
chosen true false n d e = cc
chosen false b n d e = cc

hex_small : (cs : List ℕ) (n : ℕ) → hex_number_of cs ≡ Some n → n < 2 ^ 32
hex_small cs n e =
    let c = chosen (length cs == 8) (list_all is_upper_hex cs) (digits_value 16 cs) n e in
    let most : digits_value 16 cs < 16 ^ length cs = digits_value-lt 16 cs (all_digits cs c.1) in
    let eight : 16 ^ length cs ≡ 16 ^ 8 = ap (λ k. 16 ^ k) (eqb-true (length cs) 8 c.0) in
    let same : digits_value 16 cs ≡ n = c.2 in
    let below : digits_value 16 cs < 16 ^ 8 = subst (λ k. digits_value 16 cs < k) eight most in
    omega arith

-- a name is that of itself
own_name : (t : Bool) (bs name : List ℕ) → (is_name_length (length bs) && is_object_name bs) ≡ t → then_some t bs ≡ Some name → object_name_of name ≡ Some name
own_name true bs name e f =
    let same : bs ≡ name = cc in
    subst (λ (x : List ℕ). object_name_of x ≡ Some x) same (ap (λ (b : Bool). then_some b bs) e)
own_name false bs name e f = cc

named : (bs name : List ℕ) → object_name_of bs ≡ Some name → object_name_of name ≡ Some name
named bs name e = own_name (is_name_length (length bs) && is_object_name bs) bs name refl e

-- ---- one line
entry_good : (o : Option (List ℕ)) (l : LayoutLineData) → ((name : List ℕ) → o ≡ Some name → object_name_of name ≡ Some name) → option_map entry o ≡ Some l → IsValidLayoutLine l
entry_good None l good e = cc
entry_good (Some name) l good e = let same : entry name ≡ l = cc in subst IsValidLayoutLine same (good name refl)

tested_good : (b : Bool) (p : PlaceData) (l : LayoutLineData) → (b ≡ true → IsPlace p) → then_some b (place p) ≡ Some l → IsValidLayoutLine l
tested_good true p l good e = let same : place p ≡ l = cc in subst IsValidLayoutLine same (good refl)
tested_good false p l good e = cc

place_good : (section at most : List ℕ) (s : Option (List ℕ)) (x n : Option ℕ) (l : LayoutLineData) → object_name_of section ≡ s → hex_number_of at ≡ x → hex_number_of most ≡ n → place_of_words s x n ≡ Some l → IsValidLayoutLine l
place_good section at most (Some name) (Some a) (Some m) l e f g h =
    tested_good (a % 4 == 0 && nat_le (a + m) (2 ^ 32)) (record { section = name; at = a; most = m }) l
    (λ t. let p = and_parts _ _ t in record { name = named section name e; aligned = eqb-true (a % 4) 0 p.0; word = hex_small at a f; within = leb-true (a + m) (2 ^ 32) p.1 }) h
place_good section at most (Some name) (Some a) None l e f g h = cc
place_good section at most (Some name) None n l e f g h = cc
place_good section at most None x n l e f g h = cc

when : (b : Bool) (o : Option LayoutLineData) (l : LayoutLineData) → ((k : LayoutLineData) → o ≡ Some k → IsValidLayoutLine k) → cond b o None ≡ Some l → IsValidLayoutLine l
when true o l good e = good l e
when false o l good e = cc

blank_good : (b : Bool) (l : LayoutLineData) → then_some b blank ≡ Some l → IsValidLayoutLine l
blank_good true l e = let same : blank ≡ l = cc in subst IsValidLayoutLine same tt
blank_good false l e = cc

words_good : (ws : List (List ℕ)) (l : LayoutLineData) → layout_line_of_words ws ≡ Some l → IsValidLayoutLine l
words_good [] l e = cc
words_good (w ∷ []) l e = blank_good (length w == 0) l e
words_good (w ∷ name ∷ []) l e = when (bytes_eq w (codes "entry")) (option_map entry (object_name_of name)) l (λ k f. entry_good (object_name_of name) k (λ n g. named name n g) f) e
words_good (w ∷ section ∷ at ∷ []) l e = cc
words_good (w ∷ section ∷ at ∷ most ∷ []) l e =
    when (bytes_eq w (codes "place")) (place_of_words (object_name_of section) (hex_number_of at) (hex_number_of most)) l
    (λ k f. place_good section at most (object_name_of section) (hex_number_of at) (hex_number_of most) k refl refl refl f) e
words_good (w ∷ section ∷ at ∷ most ∷ more ∷ rest) l e = cc

line_good : (line : List ℕ) (l : LayoutLineData) → layout_line_contents line ≡ Some l → IsValidLayoutLine l
unfolding layout_line_contents
line_good line l e = words_good (line_words line) l e

-- ---- the lines
abbrev draft_of : List (List ℕ) → LayoutDraftData
draft_of lines = record { entries = entries_in_lines lines; places = places_in_lines lines }

as_list : {A : Type 0} (o : Option A) → cons_option o [] ≡ option_to_list o
as_list None = refl
as_list (Some x) = refl

pushed : {A : Type 0} (f : LayoutLineData → Option A) (lines : List (List ℕ)) (line : List ℕ) → filter_map (λ l. option_and_then f (layout_line_contents l)) (lines ++ line ∷ []) ≡ filter_map (λ l. option_and_then f (layout_line_contents l)) lines ++ option_to_list (option_and_then f (layout_line_contents line))
pushed f lines line = filter_map-append (λ l. option_and_then f (layout_line_contents l)) lines (line ∷ []) ∙ ap (λ ys. filter_map (λ l. option_and_then f (layout_line_contents l)) lines ++ ys) (as_list (option_and_then f (layout_line_contents line)))

draft_pushed : (lines : List (List ℕ)) (line : List ℕ) → draft_of (lines ++ line ∷ []) ≡ draft_with_line (draft_of lines) (layout_line_contents line)
unfolding entries_in_lines places_in_lines
draft_pushed lines line = λ i. record { entries = pushed entry_in_line lines line i; places = pushed place_in_line lines line i }

-- a place that has no fault
may_stand : (n : ℕ) (entries : List (List ℕ)) (places : List PlaceData) (p : PlaceData) → IsPlace p → layout_line_fault n entries places (Some (place p)) ≡ None → IsPlaceAfter places p × (length places < 64)
may_stand n entries places p is e = by_name (has_place_for places p.section) refl e
  where
    by_shares : has_place_for places p.section ≡ false → length places < 64 → (c : Bool) → list_any (are_overlapping_places p) places ≡ c → then_some c (LayoutErr.Overlap n) ≡ None → IsPlaceAfter places p × (length places < 64)
    by_shares new few true s f = cc
    by_shares new few false s f = (record { place = is; new = new; apart = s }, few)

    by_count : has_place_for places p.section ≡ false → (b : Bool) → nat_le 64 (length places) ≡ b → cond b (Some (LayoutErr.TooMany n)) (then_some (list_any (are_overlapping_places p) places) (LayoutErr.Overlap n)) ≡ None → IsPlaceAfter places p × (length places < 64)
    by_count new true c f = cc
    by_count new false c f = by_shares new (let most = leb-false 64 (length places) c in omega arith) (list_any (are_overlapping_places p) places) refl f

    by_name : (a : Bool) → has_place_for places p.section ≡ a → cond a (Some (LayoutErr.Twice n)) (cond (nat_le 64 (length places)) (Some (LayoutErr.TooMany n)) (then_some (list_any (are_overlapping_places p) places) (LayoutErr.Overlap n))) ≡ None → IsPlaceAfter places p × (length places < 64)
    by_name true a f = cc
    by_name false a f = by_count a (nat_le 64 (length places)) refl f

-- a draft with a line more that has no fault
draft_more : (d : LayoutDraftData) (n : ℕ) (o : Option LayoutLineData) → ((l : LayoutLineData) → o ≡ Some l → IsValidLayoutLine l) → IsLayoutDraft d → layout_line_fault n d.entries d.places o ≡ None → IsLayoutDraft (draft_with_line d o)
draft_more d n None good h e = cc
draft_more d n (Some blank) good h e = record {
  entries = subst (λ (xs : List (List ℕ)). All (λ x. object_name_of x ≡ Some x) xs) (sym (append-nil d.entries)) h.entries;
  few = subst (λ (ps : List PlaceData). length ps ≤ 64) (sym (append-nil d.places)) h.few;
  places = subst (λ (ps : List PlaceData). AllInTurn IsPlaceAfter [] ps) (sym (append-nil d.places)) h.places;
}
draft_more d n (Some (entry name)) good h e = record {
  entries = All-push (λ x. object_name_of x ≡ Some x) d.entries name h.entries (good (entry name) refl);
  few = subst (λ (ps : List PlaceData). length ps ≤ 64) (sym (append-nil d.places)) h.few;
  places = subst (λ (ps : List PlaceData). AllInTurn IsPlaceAfter [] ps) (sym (append-nil d.places)) h.places;
}
draft_more d n (Some (place p)) good h e =
    let stands = may_stand n d.entries d.places p (good (place p) refl) e in record {
      entries = subst (λ (xs : List (List ℕ)). All (λ x. object_name_of x ≡ Some x) xs) (sym (append-nil d.entries)) h.entries;
      few = omega (arith, length-append d.places (p ∷ []), stands.1);
      places = turn_push IsPlaceAfter d.places p h.places stands.0;
    }

none_parts : {B : Type 0} (a b : Option B) → option_or a b ≡ None → (a ≡ None) × (b ≡ None)
none_parts None b e = (refl, e)
none_parts (Some x) b e = cc

all_good : (before rest : List (List ℕ)) → IsLayoutDraft (draft_of before) → first_layout_fault before rest ≡ None → IsLayoutDraft (draft_of (before ++ rest))
unfolding first_layout_fault
all_good before [] h e = subst (λ (ls : List (List ℕ)). IsLayoutDraft (draft_of ls)) (sym (append-nil before)) h
all_good before (line ∷ lines) h e =
    let n = none_parts _ _ e in
    let more : IsLayoutDraft (draft_of (before ++ line ∷ [])) = subst IsLayoutDraft (sym (draft_pushed before line)) (draft_more (draft_of before) (length before + 1) (layout_line_contents line) (line_good line) h n.0) in
    subst (λ (ls : List (List ℕ)). IsLayoutDraft (draft_of ls)) (append_assoc before (line ∷ []) lines) (all_good (before ++ line ∷ []) lines more n.1)

no_lines : IsLayoutDraft (draft_of [])
unfolding entries_in_lines places_in_lines
no_lines = record { entries = All-nil (λ x. object_name_of x ≡ Some x); few = omega arith; places = tt }

-- ---- the layout
with_entry_good : (n : ℕ) (entries : List (List ℕ)) (places : List PlaceData) (l : LayoutData) → IsLayoutDraft (record { entries = entries; places = places }) → finished_layout n entries places ≡ Ok l → IsLayout l
with_entry_good n [] places l h e = cc
with_entry_good n (name ∷ names) places l h e =
    let same : record { entry = name; places = places } ≡ l = cc in
    subst IsLayout same (record { entry = All-head (λ x. object_name_of x ≡ Some x) name names h.entries; few = h.few; places = h.places })

pub texts_give_layouts : TextsGiveLayouts
texts_give_layouts text layout e = by_fault (first_layout_fault [] (text_lines text)) refl e
  where
    by_fault : (o : Option LayoutErr) → first_layout_fault [] (text_lines text) ≡ o → unless_refused o (finished_layout (length (text_lines text)) (entries_in_lines (text_lines text)) (places_in_lines (text_lines text))) ≡ Ok layout → IsLayout layout
    by_fault (Some x) f g = cc
    by_fault None f g = with_entry_good (length (text_lines text)) (entries_in_lines (text_lines text)) (places_in_lines (text_lines text)) layout (all_good [] (text_lines text) no_lines f) g
