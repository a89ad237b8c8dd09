-- The object of an image's listing.
use Rattle.std.specs.Prelude.{◌≡◌, ◌≤◌, ◌<◌, ◌^◌, ◌++◌, ℕ, List, [], codes, length, map, slice_index_or}
use Rattle.std.specs.Fmt.{decimal}
use Rattle.std.specs.List.Sorted.{IsPermutation, IsNonDecreasing}
use Rattle.elf_image.specs.Images.{SegmentData, ImageData, IsImage}
use Rattle.tc_object.specs.Objects.{SectionData, ObjectData}
use Rattle.tc_stmt.specs.Lines.{lines_in}
use Rattle.tc_asm.specs.Objects.{object_of_draft}
use Rattle.tc_asm.specs.DraftedSources.{symbols_of_lines, draft_from_lines}
use Rattle.tc_asm.specs.Rules.{LinesKeepRules, IsFirstBadLine}
use Rattle.tc_disasm.specs.Listing.{listing_of}

-- the name of a section in the object that a listing is assembled to, by its number: `s0`, `s1` and
-- so on
abbrev pub listed_section_name : ℕ → List ℕ
listed_section_name n = codes "s" ++ decimal n

-- the object's sections are the segments in ascending order of addresses, byte by byte, and it has
-- nothing else
pub record HoldsSegments (segments : List SegmentData) (o : ObjectData) : Type 0 where
  pub ordered : List SegmentData
  pub same : IsPermutation segments ordered
  pub ascending : IsNonDecreasing (map (λ (s : SegmentData). s.at) ordered)
  pub bytes : map (λ (s : SectionData). s.bytes) o.sections ≡ map (λ (s : SegmentData). s.bytes) ordered
  pub names : (k : ℕ) (d : SectionData) → k < length o.sections → (slice_index_or o.sections k d).name ≡ listed_section_name k
  pub symbols : o.symbols ≡ []
  pub relocs : o.relocs ≡ []

-- The listing of the image is short enough for a source, and no line breaks a rule. So there is no
-- first line that breaks one. The object of the listing has the segments as its sections.
pub record ListingReadsBack (i : ImageData) : Type 0 where
  pub short : length (listing_of i) ≤ 2 ^ 30
  pub keeps : LinesKeepRules (lines_in (listing_of i)) (length (lines_in (listing_of i)))
  pub never : (line rule : ℕ) → IsFirstBadLine (lines_in (listing_of i)) line rule → ⊥
  pub holds : HoldsSegments i.segments (object_of_draft (draft_from_lines (symbols_of_lines (lines_in (listing_of i))) (lines_in (listing_of i))))

-- the listing of each image, when it is assembled, gives an object with the image's segments as its
-- sections
abbrev pub EveryListingReadsBack : Type 0
EveryListingReadsBack = (i : ImageData) → IsImage i → ListingReadsBack i
