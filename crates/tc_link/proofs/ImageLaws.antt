-- The segments of places keep the limits of an image.
use Rattle.std.proofs.Common.{◌≡◌, ◌+◌, ◌<◌, ◌≤◌, ◌^◌, ◌∷◌, ◌++◌, [], ℕ, Bool, true, false, not, cond, ◌||◌, max, min, List, length, map, refl, sym, ◌∙◌, arith, leb, ltb}
use Rattle.std.specs.Prelude.{filter, IsTrue}
use Rattle.std.specs.List.{sum_by, list_any, list_all}
use Rattle.std.proofs.lemmas.Bool.{le-leb, leb-false, ltb-false, ltb-true, and_from}
use Rattle.std.proofs.lemmas.List.Folds.{list_any-append}
use Rattle.std.proofs.lemmas.List.{length-map}
use Rattle.std.proofs.lemmas.List.Sums.{sum_by-cons, length-filter, count_by-le-length}
use Rattle.std.proofs.lemmas.List.Filters.{sum_by-filter_both}
use Rattle.elf_image.specs.Images.{SegmentData, ImageData, HoldOnlyBytes, IsImage, is_segment, are_segments_disjoint, are_all_segments_disjoint}
use Rattle.tc_object.specs.Objects.{SectionData, AllInTurn}
use Rattle.tc_link.specs.Layouts.{PlaceData, LayoutData, IsPlace, IsPlaceAfter, IsLayout, are_overlapping_places}
use Rattle.tc_link.specs.PlaceSizes.{used_place_size, has_region_overflow, total_used_size}
use Rattle.tc_link.specs.Segments.{joined_sections, segment_of, segments_of}
use Rattle.tc_link.specs.Shapes.{section_shape}
use Rattle.tc_link.proofs.PlaceLaws.{or_false}
use Rattle.tc_link.proofs.ShapeLaws.{length-joined, taken-shapes}

-- ---- places that hold their sections
abbrev Fits : List SectionData → List PlaceData → Type 0
Fits contents [] = Unit {0}
Fits contents (p ∷ ps) = (IsPlace p × (length (joined_sections p.section contents) ≤ p.most)) × Fits contents ps

fits_from : (contents sections : List SectionData) (before places : List PlaceData) → map section_shape contents ≡ map section_shape sections → AllInTurn IsPlaceAfter before places
    → list_any (λ p. ltb p.most (used_place_size p.section sections)) places ≡ false → Fits contents places
fits_from contents sections before [] same turn e = tt
fits_from contents sections before (p ∷ ps) same turn e =
    let parts = or_false (ltb p.most (used_place_size p.section sections)) (list_any (λ q. ltb q.most (used_place_size q.section sections)) ps) e in
    let len : length (joined_sections p.section contents) ≡ used_place_size p.section sections = length-joined p.section contents ∙ taken-shapes p.section contents sections same in
    ((turn.0.place, omega (arith, ltb-false _ _ parts.0)), fits_from contents sections (before ++ p ∷ []) ps same turn.1 parts.1)

abbrev has_bytes : SegmentData → Bool
has_bytes s = ltb 0 (length s.bytes)

abbrev segments : List SectionData → List PlaceData → List SegmentData
segments contents ps = filter has_bytes (map (segment_of contents) ps)

-- ---- each segment
all_segments : (contents : List SectionData) (ps : List PlaceData) → Fits contents ps → list_all is_segment (segments contents ps) ≡ true
all_segments contents [] h = refl
all_segments contents (p ∷ ps) h = by_bytes (all_segments contents ps h.1) (has_bytes (segment_of contents p)) refl
  where
    by_bytes : list_all is_segment (segments contents ps) ≡ true → (b : Bool) → has_bytes (segment_of contents p) ≡ b → list_all is_segment (cond b (segment_of contents p ∷ segments contents ps) (segments contents ps)) ≡ true
    by_bytes rest true e = and_from _ _ (and_from _ _ e (le-leb _ _ (omega (arith, h.0.0.within, h.0.1)))) rest
    by_bytes rest false e = rest

-- ---- no two share an address
abbrev ApartFrom : PlaceData → List PlaceData → Type 0
ApartFrom p [] = Unit {0}
ApartFrom p (q ∷ qs) = (are_overlapping_places q p ≡ false) × ApartFrom p qs

-- a test that fails for each place of the list fails for p
abbrev IsOf : List PlaceData → PlaceData → Type 0
IsOf before p = (f : PlaceData → Bool) → list_any f before ≡ false → f p ≡ false

of_more : (before : List PlaceData) (p q : PlaceData) → IsOf before p → IsOf (before ++ q ∷ []) p
of_more before p q h f e = h f (or_false (list_any f before) (list_any f (q ∷ [])) (sym (list_any-append f before (q ∷ [])) ∙ e)).0

of_last : (before : List PlaceData) (p : PlaceData) → IsOf (before ++ p ∷ []) p
of_last before p f e = (or_false (f p) false (or_false (list_any f before) (list_any f (p ∷ [])) (sym (list_any-append f before (p ∷ [])) ∙ e)).1).0

apart_from : (p : PlaceData) (before qs : List PlaceData) → IsOf before p → AllInTurn IsPlaceAfter before qs → ApartFrom p qs
apart_from p before [] h turn = tt
apart_from p before (q ∷ qs) h turn = (h (are_overlapping_places q) turn.0.apart, apart_from p (before ++ q ∷ []) qs (of_more before p q h) turn.1)

two_apart : (p q : PlaceData) (m n : ℕ) → m ≤ p.most → n ≤ q.most → 0 < m → 0 < n → are_overlapping_places q p ≡ false → (leb (p.at + m) q.at || leb (q.at + n) p.at) ≡ true
two_apart p q m n fm fn sm sn e = by_first (leb (p.at + m) q.at) refl
  where
    met : min (q.at + q.most) (p.at + p.most) ≤ max q.at p.at
    met = ltb-false _ _ e

    by_first : (b : Bool) → leb (p.at + m) q.at ≡ b → (b || leb (q.at + n) p.at) ≡ true
    by_first true f = refl
    by_first false f = le-leb _ _ (omega (arith, leb-false _ _ f, met))

apart_one : (contents : List SectionData) (p : PlaceData) (qs : List PlaceData) → length (joined_sections p.section contents) ≤ p.most → 0 < length (joined_sections p.section contents) → Fits contents qs → ApartFrom p qs
    → list_all (are_segments_disjoint (segment_of contents p)) (segments contents qs) ≡ true
apart_one contents p [] few some h apart = refl
apart_one contents p (q ∷ qs) few some h apart = by_bytes (apart_one contents p qs few some h.1 apart.1) (has_bytes (segment_of contents q)) refl
  where
    by_bytes : list_all (are_segments_disjoint (segment_of contents p)) (segments contents qs) ≡ true → (b : Bool) → has_bytes (segment_of contents q) ≡ b → list_all (are_segments_disjoint (segment_of contents p)) (cond b (segment_of contents q ∷ segments contents qs) (segments contents qs)) ≡ true
    by_bytes rest true e = and_from _ _ (two_apart p q (length (joined_sections p.section contents)) (length (joined_sections q.section contents)) few h.0.1 some (ltb-true _ _ e) apart.0) rest
    by_bytes rest false e = rest

apart_all : (contents : List SectionData) (before ps : List PlaceData) → AllInTurn IsPlaceAfter before ps → Fits contents ps → are_all_segments_disjoint (segments contents ps) ≡ true
apart_all contents before [] turn h = refl
apart_all contents before (p ∷ ps) turn h = by_bytes (apart_all contents (before ++ p ∷ []) ps turn.1 h.1) (has_bytes (segment_of contents p)) refl
  where
    by_bytes : are_all_segments_disjoint (segments contents ps) ≡ true → (b : Bool) → has_bytes (segment_of contents p) ≡ b → are_all_segments_disjoint (cond b (segment_of contents p ∷ segments contents ps) (segments contents ps)) ≡ true
    by_bytes rest true e = and_from _ _ (apart_one contents p ps h.0.1 (ltb-true _ _ e) h.1 (apart_from p (before ++ p ∷ []) ps (of_last before p) turn.1)) rest
    by_bytes rest false e = rest

-- ---- how many, and how long
few_segments : (contents : List SectionData) (ps : List PlaceData) → length (segments contents ps) ≤ length ps
few_segments contents ps = omega (arith, length-filter has_bytes (map (segment_of contents) ps), count_by-le-length has_bytes (map (segment_of contents) ps), length-map ps (segment_of contents))

sizes_sum : (contents sections : List SectionData) (ps : List PlaceData) → map section_shape contents ≡ map section_shape sections
    → sum_by (λ s. length s.bytes) (map (segment_of contents) ps) ≡ sum_by (λ p. used_place_size p.section sections) ps
sizes_sum contents sections [] same = refl
sizes_sum contents sections (p ∷ ps) same =
    let len : length (joined_sections p.section contents) ≡ used_place_size p.section sections = length-joined p.section contents ∙ taken-shapes p.section contents sections same in
    omega (arith, len, sizes_sum contents sections ps same, sum_by-cons (λ (s : SegmentData). length s.bytes) (segment_of contents p) (map (segment_of contents) ps), sum_by-cons (λ (q : PlaceData). used_place_size q.section sections) p ps)

small_segments : (contents sections : List SectionData) (ps : List PlaceData) → map section_shape contents ≡ map section_shape sections
    → sum_by (λ s. length s.bytes) (segments contents ps) ≤ sum_by (λ p. used_place_size p.section sections) ps
small_segments contents sections ps same = omega (arith, sizes_sum contents sections ps same, sum_by-filter_both has_bytes (λ s. not (has_bytes s)) (λ _. refl) (λ (s : SegmentData). length s.bytes) (map (segment_of contents) ps))

-- ---- the image
-- the limits of an image, except that of its bytes
pub record KeepsLimits (i : ImageData) : Type 0 where
  pub entry : i.entry < 2 ^ 32
  pub few : length i.segments ≤ 64
  pub segments : IsTrue (list_all is_segment i.segments)
  pub apart : IsTrue (are_all_segments_disjoint i.segments)
  pub small : sum_by (λ s. length s.bytes) i.segments ≤ 2 ^ 24

pub image_of_bytes : (i : ImageData) → KeepsLimits i → HoldOnlyBytes i.segments → IsImage i
image_of_bytes i l bytes = record { entry = l.entry; few = l.few; segments = l.segments; bytes = bytes; apart = l.apart; small = l.small }

pub image_is : (layout : LayoutData) (contents sections : List SectionData) (entry : ℕ) → IsLayout layout → map section_shape contents ≡ map section_shape sections → has_region_overflow layout.places sections ≡ false → entry < 2 ^ 32
    → KeepsLimits (record { entry = entry; segments = segments_of layout.places contents })
unfolding has_region_overflow total_used_size segments_of
image_is layout contents sections entry good same room small =
    let parts = or_false (list_any (λ p. ltb p.most (used_place_size p.section sections)) layout.places) (ltb (2 ^ 24) (sum_by (λ p. used_place_size p.section sections) layout.places)) room in
    let fits = fits_from contents sections [] layout.places same good.places parts.0 in
    record {
      entry = small;
      few = omega (arith, few_segments contents layout.places, good.few);
      segments = all_segments contents layout.places fits;
      apart = apart_all contents [] layout.places good.places fits;
      small = omega (arith, small_segments contents sections layout.places same, ltb-false _ _ parts.1);
    }
