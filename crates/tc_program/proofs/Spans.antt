-- The segments of an image are the places with bytes.
use Rattle.std.proofs.Common.{◌≡◌, Bool, true, false, cond, List, [], ◌∷◌, length, map, refl, ap, ◌∙◌}
use Rattle.std.specs.Prelude.{filter, nat_lt}
use Rattle.tc_object.specs.Objects.{SectionData}
use Rattle.tc_link.specs.Layouts.{PlaceData}
use Rattle.tc_link.specs.PlaceSizes.{used_place_size}
use Rattle.tc_link.specs.Segments.{joined_sections, segment_of, segments_of}
use Rattle.tc_link.specs.Shapes.{section_shape}
use Rattle.tc_link.proofs.ShapeLaws.{length-joined, taken-shapes}
use Rattle.tc_program.specs.Placed.{SegmentRangeData, segment_range, place_range}

pub spans : (contents sections : List SectionData) (places : List PlaceData) → map section_shape contents ≡ map section_shape sections →
    map segment_range (segments_of places contents) ≡ filter (λ (s : SegmentRangeData). nat_lt 0 s.size) (map (place_range sections) places)
unfolding segments_of
spans contents sections [] same = refl
spans contents sections (p ∷ ps) same =
    let size : length (joined_sections p.section contents) ≡ used_place_size p.section sections = length-joined p.section contents ∙ taken-shapes p.section contents sections same in
    by (nat_lt 0 (length (joined_sections p.section contents))) (nat_lt 0 (used_place_size p.section sections)) (ap (nat_lt 0) size) size (spans contents sections ps same)
  where
    by : (a b : Bool) → a ≡ b → length (joined_sections p.section contents) ≡ used_place_size p.section sections
        → map segment_range (segments_of ps contents) ≡ filter (λ (s : SegmentRangeData). nat_lt 0 s.size) (map (place_range sections) ps)
        → map segment_range (cond a (segment_of contents p ∷ filter (λ s. nat_lt 0 (length s.bytes)) (map (segment_of contents) ps)) (filter (λ s. nat_lt 0 (length s.bytes)) (map (segment_of contents) ps)))
        ≡ cond b (place_range sections p ∷ filter (λ (s : SegmentRangeData). nat_lt 0 s.size) (map (place_range sections) ps)) (filter (λ (s : SegmentRangeData). nat_lt 0 s.size) (map (place_range sections) ps))
    by true true e size rec = ap (λ n. record { at = p.at; size = n } ∷ map segment_range (segments_of ps contents)) size ∙ ap (λ (ss : List SegmentRangeData). place_range sections p ∷ ss) rec
    by true false e size rec = cc
    by false true e size rec = cc
    by false false e size rec = rec
