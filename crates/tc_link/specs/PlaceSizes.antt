-- The numbers of bytes of their places that sections use.
use Rattle.std.specs.Prelude.{◌^◌, ℕ, List, length, ◌+◌, ◌*◌, ◌/◌, if◌then◌else◌, fold, ◌||◌, nat_lt, Bool, sum_by}
use Rattle.tc_object.specs.Objects.{SectionData}
use Rattle.tc_link.specs.Layouts.{PlaceData}
use Rattle.std.specs.Str.{bytes_eq}
use Rattle.std.specs.List.{list_any}

-- the least multiple of 4 that isn't below n
abbrev pub next_multiple_of_4 : ℕ → ℕ
next_multiple_of_4 n = (n + 3) / 4 * 4

-- the number of used bytes of the place for this name, first n, after a further section
abbrev pub used_size_with_section : List ℕ → ℕ → SectionData → ℕ
used_size_with_section name n s = if bytes_eq name s.name then next_multiple_of_4 n + length s.bytes else n

-- the number of bytes that the sections of this name, each at a multiple of 4, use of their place
-- in the layout
unfoldable pub used_place_size : List ℕ → List SectionData → ℕ
used_place_size name sections = fold (used_size_with_section name) 0 sections

-- the number of bytes that the sections use in all places
unfoldable pub total_used_size : List PlaceData → List SectionData → ℕ
total_used_size places sections = sum_by (λ p. used_place_size p.section sections) places

-- these sections overflow a place of the layout, a memory region, or the 16,777,216 bytes of an
-- image
unfoldable pub has_region_overflow : List PlaceData → List SectionData → Bool
has_region_overflow places sections = list_any (λ p. nat_lt p.most (used_place_size p.section sections)) places || nat_lt (2 ^ 24) (total_used_size places sections)
