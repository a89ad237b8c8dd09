-- The lines that were read so far.
use Rattle.std.proofs.Common.{◌≡◌, ◌≤◌, ◌+◌, ◌∷◌, ◌++◌, [], ℕ, zero, suc, List, length, take, drop, Option, Some, None, Err, refl, ap, sym, ◌∙◌, arith, length-drop}
use Rattle.std.specs.Option.{option_or, option_and_then, option_to_list}
use Rattle.std.proofs.lemmas.List.{length-take-le, take_all}
use Rattle.std.proofs.lemmas.List.Elements.{filter_map-append}
use Rattle.tc_link.specs.declared.layout_errors.LayoutErr.{LayoutErr}
use Rattle.tc_link.specs.declared.layout_errors.LayoutErr.TheVariants.{BadLine, Twice, TooMany, Overlap, NoMemory}
use Rattle.tc_link.specs.Layouts.{PlaceData}
use Rattle.tcd_text.specs.Lines.{text_lines}
use Rattle.tc_link.specs.LayoutLines.{LayoutLineData, layout_line_contents, entry_in_line, place_in_line, entries_in_lines, places_in_lines}
use Rattle.std.specs.List.{filter_map, cons_option}
use Rattle.tcd_base.specs.Refusing.{unless_refused}
use Rattle.tc_link.specs.LayoutFaults.{layout_line_fault, first_layout_fault, layout_of_lines, IsLayoutFault, IsLayoutFaultOf}
use Rattle.tc_link.specs.LayoutDrafts.{finished_layout, LayoutDraftData, draft_with_line}

-- the first n lines have no fault and lead to the draft; the text is the rest
pub record Reached (all : List (List ℕ)) (n : ℕ) (rest : List ℕ) (d : LayoutDraftData) : Type 0 where
  pub rest_lines : drop n all ≡ text_lines rest
  pub count : n ≤ length all
  pub entries : d.entries ≡ entries_in_lines (take n all)
  pub places : d.places ≡ places_in_lines (take n all)
  pub good : first_layout_fault (take n all) (text_lines rest) ≡ first_layout_fault [] all

pub reached_none : (bytes : List ℕ) (d : LayoutDraftData) → d.entries ≡ [] → d.places ≡ [] → Reached (text_lines bytes) 0 bytes d
unfolding entries_in_lines places_in_lines
reached_none bytes d e f = record { rest_lines = refl; count = omega arith; entries = e; places = f; good = refl }

as_list : {A : Type 0} (o : Option A) → cons_option o [] ≡ option_to_list o
as_list None = refl
as_list (Some x) = refl

pushed : {A : Type 0} (f : LayoutLineData → Option A) (lines : List (List ℕ)) (line : List ℕ) → filter_map (λ l. option_and_then f (layout_line_contents l)) (lines ++ line ∷ []) ≡ filter_map (λ l. option_and_then f (layout_line_contents l)) lines ++ option_to_list (option_and_then f (layout_line_contents line))
pushed f lines line = filter_map-append (λ l. option_and_then f (layout_line_contents l)) lines (line ∷ []) ∙ ap (λ ys. filter_map (λ l. option_and_then f (layout_line_contents l)) lines ++ ys) (as_list (option_and_then f (layout_line_contents line)))

-- a further line
step_all : (all : List (List ℕ)) (n : ℕ) (line : List ℕ) (more : List (List ℕ)) → drop n all ≡ line ∷ more → (take (n + 1) all ≡ take n all ++ line ∷ []) × (drop (n + 1) all ≡ more) × (n + 1 ≤ length all)
step_all [] zero line more e = cc
step_all [] (suc n) line more e = cc
step_all (x ∷ xs) zero line more e = (ap (λ (y : List ℕ). y ∷ []) cc, cc, omega arith)
step_all (x ∷ xs) (suc n) line more e =
    let s = step_all xs n line more e in
    let same : suc (n + 1) ≡ suc n + 1 = omega arith in
    (ap (λ k. take k (x ∷ xs)) (sym same) ∙ ap (λ (ys : List (List ℕ)). x ∷ ys) s.0, ap (λ k. drop k (x ∷ xs)) (sym same) ∙ s.1, omega (arith, s.2))

next_fault : (all : List (List ℕ)) (n : ℕ) (rest line after : List ℕ) (d : LayoutDraftData) → Reached all n rest d → text_lines rest ≡ line ∷ text_lines after
    → option_or (layout_line_fault (n + 1) d.entries d.places (layout_line_contents line)) (first_layout_fault (take n all ++ line ∷ []) (text_lines after)) ≡ first_layout_fault [] all
unfolding first_layout_fault
next_fault all n rest line after d r e =
    let at : first_layout_fault (take n all) (line ∷ text_lines after) ≡ first_layout_fault [] all = ap (first_layout_fault (take n all)) (sym e) ∙ r.good in
    rw (r.entries, r.places) (rw (length-take-le n all r.count) at at)

pub reached_more : (all : List (List ℕ)) (n : ℕ) (rest line after : List ℕ) (d new : LayoutDraftData) → Reached all n rest d → text_lines rest ≡ line ∷ text_lines after
    → layout_line_fault (n + 1) d.entries d.places (layout_line_contents line) ≡ None → new ≡ draft_with_line d (layout_line_contents line) → Reached all (n + 1) after new
unfolding entries_in_lines places_in_lines
reached_more all n rest line after d new r e good is =
    let s = step_all all n line (text_lines after) (r.rest_lines ∙ e) in record {
      rest_lines = s.1;
      count = s.2;
      entries = ap (λ (x : LayoutDraftData). x.entries) is ∙ ap (λ (xs : List (List ℕ)). xs ++ option_to_list (option_and_then entry_in_line (layout_line_contents line))) r.entries ∙ sym (pushed entry_in_line (take n all) line) ∙ ap entries_in_lines (sym s.0);
      places = ap (λ (x : LayoutDraftData). x.places) is ∙ ap (λ (xs : List PlaceData). xs ++ option_to_list (option_and_then place_in_line (layout_line_contents line))) r.places ∙ sym (pushed place_in_line (take n all) line) ∙ ap places_in_lines (sym s.0);
      good = ap (λ (xs : List (List ℕ)). first_layout_fault xs (text_lines after)) s.0 ∙ (rw good at (next_fault all n rest line after d r e));
    }

pub reached_fault : (all : List (List ℕ)) (n : ℕ) (rest line after : List ℕ) (d : LayoutDraftData) (e : LayoutErr) → Reached all n rest d → text_lines rest ≡ line ∷ text_lines after
    → IsLayoutFault (layout_line_fault (n + 1) d.entries d.places (layout_line_contents line)) e → IsLayoutFaultOf (layout_of_lines all) e
reached_fault all n rest line after d e r lines f = by_err e f
  where
    told_first : (x : LayoutErr) → layout_line_fault (n + 1) d.entries d.places (layout_line_contents line) ≡ Some x → first_layout_fault [] all ≡ Some x
    told_first x is = sym (next_fault all n rest line after d r lines) ∙ ap (λ (o : Option LayoutErr). option_or o (first_layout_fault (take n all ++ line ∷ []) (text_lines after))) is

    told : (x : LayoutErr) → layout_line_fault (n + 1) d.entries d.places (layout_line_contents line) ≡ Some x → layout_of_lines all ≡ Err x
    told x is = ap (λ (o : Option LayoutErr). unless_refused o (finished_layout (length all) (entries_in_lines all) (places_in_lines all))) (told_first x is)

    by_err : (x : LayoutErr) → IsLayoutFault (layout_line_fault (n + 1) d.entries d.places (layout_line_contents line)) x → IsLayoutFaultOf (layout_of_lines all) x
    by_err (BadLine k) h = told (BadLine k) h
    by_err (Twice k) h = told (Twice k) h
    by_err (TooMany k) h = told (TooMany k) h
    by_err (Overlap k) h = told (Overlap k) h
    by_err NoMemory h = tt

-- all lines were read
end_at : (all : List (List ℕ)) (n : ℕ) (d : LayoutDraftData) → Reached all n [] d → layout_of_lines all ≡ finished_layout n d.entries d.places
unfolding text_lines first_layout_fault
end_at all n d r =
    let whole : n ≡ length all = omega (arith, ap length r.rest_lines, length-drop n all, r.count) in
    let taken : take n all ≡ all = take_all n all (omega (arith, whole)) in
    ap (λ (o : Option LayoutErr). unless_refused o (finished_layout (length all) (entries_in_lines all) (places_in_lines all))) (sym r.good)
    ∙ ap (λ (es : List (List ℕ)). finished_layout (length all) es (places_in_lines all)) (ap entries_in_lines (sym taken) ∙ sym r.entries)
    ∙ ap (λ (ps : List PlaceData). finished_layout (length all) d.entries ps) (ap places_in_lines (sym taken) ∙ sym r.places)
    ∙ ap (λ k. finished_layout k d.entries d.places) (sym whole)

pub reached_end : (all : List (List ℕ)) (n : ℕ) (rest : List ℕ) (d : LayoutDraftData) → Reached all n rest d → length rest ≡ 0 → layout_of_lines all ≡ finished_layout n d.entries d.places
reached_end all n [] d r e = end_at all n d r
reached_end all n (c ∷ cs) d r e = absurd (omega arith)
