-- The bytes of places, and the segments of an image.
use Rattle.std.specs.Prelude.{◌-◌, nat_lt, if◌then◌else◌, ℕ, List, ◌++◌, length, map, filter, fold, replicate, []}
use Rattle.std.specs.Str.{bytes_eq}
use Rattle.elf_image.specs.Images.{SegmentData}
use Rattle.tc_object.specs.Objects.{SectionData}
use Rattle.tc_link.specs.Layouts.{PlaceData}
use Rattle.tc_link.specs.PlaceSizes.{next_multiple_of_4}

-- the bytes of a place with zeros up to a multiple of 4, where its next section begins in the
-- segment
abbrev pub with_segment_padding : List ℕ → List ℕ
with_segment_padding bytes = bytes ++ replicate (next_multiple_of_4 (length bytes) - length bytes) 0

-- the bytes of a segment after a further section, which is appended if its name is this one
abbrev pub with_section_of_name : List ℕ → List ℕ → SectionData → List ℕ
with_section_of_name name bytes s = if bytes_eq name s.name then with_segment_padding bytes ++ s.bytes else bytes

-- the sections of one name, each at a multiple of 4, the gaps zero
unfoldable pub joined_sections : List ℕ → List SectionData → List ℕ
joined_sections name sections = fold (with_section_of_name name) [] sections

-- the segment of a place: the sections with its name
abbrev pub segment_of : List SectionData → PlaceData → SegmentData
segment_of sections p = record { at = p.at; bytes = joined_sections p.section sections }

-- the segments: one for each place with bytes
unfoldable pub segments_of : List PlaceData → List SectionData → List SegmentData
segments_of places sections = filter (λ s. nat_lt 0 (length s.bytes)) (map (segment_of sections) places)
