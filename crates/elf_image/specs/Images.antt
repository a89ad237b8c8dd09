-- Images as plain data.
use Rattle.std.specs.Prelude.{◌≤◌, ◌<◌, ◌+◌, ◌-◌, ◌^◌, ℕ, List, ◌∷◌, length, map, sum_by, All, Option, None, Bool, true, IsTrue, nat_le, nat_lt, ◌&&◌, ◌||◌, if◌then◌else◌, slice_get, ◌≡◌, Some, []}
use Rattle.std.specs.List.{list_all}
use Rattle.elf_image.specs.declared.images.Image.TheInside.{Inside}
use Rattle.elf_image.specs.declared.segments.Segment.{Segment}

-- a segment of an image: the address of its first byte, and its bytes
pub record SegmentData : Type 0 where
  pub at : ℕ
  pub bytes : List ℕ

-- an image, what is read of an executable: the address at which the program begins, and its
-- segments
pub record ImageData : Type 0 where
  pub entry : ℕ
  pub segments : List SegmentData

-- a segment of the code as plain data
abbrev pub segment_data : Segment → SegmentData
segment_data s = record { at = s.at; bytes = s.bytes.items }

-- an image of the code as plain data
abbrev pub image_data : Inside → ImageData
image_data i = record { entry = i.entry; segments = map segment_data i.segments.items }

-- a segment has a byte at least, and none at 2^32 or above
abbrev pub is_segment : SegmentData → Bool
is_segment s = nat_lt 0 (length s.bytes) && nat_le (s.at + length s.bytes) (2 ^ 32)

-- two segments share no address
abbrev pub are_segments_disjoint : SegmentData → SegmentData → Bool
are_segments_disjoint s t = nat_le (s.at + length s.bytes) t.at || nat_le (t.at + length t.bytes) s.at

-- no two of these segments share an address
abbrev pub are_all_segments_disjoint : List SegmentData → Bool
are_all_segments_disjoint [] = true
are_all_segments_disjoint (s ∷ ss) = list_all (are_segments_disjoint s) ss && are_all_segments_disjoint ss

-- the segments of an image hold only bytes, numbers below 256
abbrev pub HoldOnlyBytes : List SegmentData → Type 0
HoldOnlyBytes segments = All (λ (s : SegmentData). All (λ b. b < 2 ^ 8) s.bytes) segments

-- the number of bytes that these segments have together
abbrev pub total_segment_size : List SegmentData → ℕ
total_segment_size segments = sum_by (λ s. length s.bytes) segments

-- an image is within its limits: at most 64 segments with at most 2^24 bytes together, none empty
-- or past 2^32, no two at one address
pub record IsImage (i : ImageData) : Type 0 where
  pub entry : i.entry < 2 ^ 32
  pub few : length i.segments ≤ 64
  pub segments : IsTrue (list_all is_segment i.segments)
  pub bytes : HoldOnlyBytes i.segments
  pub apart : IsTrue (are_all_segments_disjoint i.segments)
  pub small : total_segment_size i.segments ≤ 2 ^ 24

-- the address x is that of a byte of the segment
abbrev pub segment_contains : SegmentData → ℕ → Bool
segment_contains s x = nat_le s.at x && nat_lt x (s.at + length s.bytes)

-- the byte at address x of the first of these segments that has one there; None if none has
abbrev pub byte_in_segments : List SegmentData → ℕ → Option ℕ
byte_in_segments [] x = None
byte_in_segments (s ∷ ss) x = if segment_contains s x then slice_get s.bytes (x - s.at) else byte_in_segments ss x

-- the byte of the image at the address x; None if no segment has one there
abbrev pub image_byte : ImageData → ℕ → Option ℕ
image_byte i x = byte_in_segments i.segments x

-- the image has these bytes from an address on
abbrev pub HoldsBytesFrom : ImageData → ℕ → List ℕ → Type 0
HoldsBytesFrom image at bytes = (k b : ℕ) → slice_get bytes k ≡ Some b → image_byte image (at + k) ≡ Some b
