-- Segments of places, one section after another.
use Rattle.std.proofs.Common.{◌≡◌, ◌∷◌, ◌++◌, [], Bool, true, false, ltb, cond, List, length, map, refl, ap, ◌∙◌}
use Rattle.std.specs.Str.{bytes_eq}
use Rattle.std.specs.Prelude.{filter}
use Rattle.std.proofs.lemmas.List.Sums.{fold_push}
use Rattle.elf_image.specs.declared.segments.Segment.{Segment}
use Rattle.elf_image.specs.Images.{SegmentData, segment_data}
use Rattle.tc_object.specs.Objects.{SectionData}
use Rattle.tc_link.specs.Layouts.{PlaceData}
use Rattle.tc_link.specs.Segments.{with_segment_padding, with_section_of_name, joined_sections, segment_of, segments_of}
use Rattle.tc_link.proofs.PlaceLaws.{Grows}

-- a segment after a further section
abbrev pub grown_segment : SegmentData → SectionData → SegmentData
grown_segment x s = record { at = x.at; bytes = with_segment_padding x.bytes ++ s.bytes }

pub segments_grow : Grows segment_of grown_segment
unfolding joined_sections
segments_grow ss s p = ap (λ (l : List _). record { at = p.at; bytes = l }) (fold_push (with_section_of_name p.section) [] ss s) ∙ by_name (bytes_eq p.section s.name)
  where
    by_name : (b : Bool) → record { at = p.at; bytes = cond b (with_segment_padding (joined_sections p.section ss) ++ s.bytes) (joined_sections p.section ss) } ≡ cond b (grown_segment (segment_of ss p) s) (segment_of ss p)
    by_name true = refl
    by_name false = refl

kept_map : {A B : Type 0} (f : A → B) (p : B → Bool) (xs : List A) → map f (filter (λ x. p (f x)) xs) ≡ filter p (map f xs)
kept_map f p [] = refl
kept_map {A} {B} f p (x ∷ xs) = by_test (p (f x)) (kept_map f p xs)
  where
    by_test : (b : Bool) → map f (filter (λ y. p (f y)) xs) ≡ filter p (map f xs) → map f (cond b (x ∷ filter (λ y. p (f y)) xs) (filter (λ y. p (f y)) xs)) ≡ cond b (f x ∷ filter p (map f xs)) (filter p (map f xs))
    by_test true rest = ap (λ (l : List B). f x ∷ l) rest
    by_test false rest = rest

-- the segments with bytes
pub kept_segments : (all kept : List Segment) (places : List PlaceData) (sections : List SectionData) → kept ≡ filter (λ (s : Segment). ltb 0 (length s.bytes.items)) all → map segment_data all ≡ map (segment_of sections) places → map segment_data kept ≡ segments_of places sections
unfolding segments_of
kept_segments all kept places sections e h = ap (map segment_data) e ∙ kept_map segment_data (λ (s : SegmentData). ltb 0 (length s.bytes)) all ∙ ap (filter (λ (s : SegmentData). ltb 0 (length s.bytes))) h
