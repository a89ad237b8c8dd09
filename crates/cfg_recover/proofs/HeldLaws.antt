-- Bytes of an image that one segment holds.
use Rattle.std.proofs.Common.{◌≡◌, ◌<◌, ◌≤◌, ◌+◌, ◌-◌, ◌⊎◌, ◌&&◌, ◌||◌, inl, inr, ℕ, zero, suc, Bool, true, false, cond, List, [], ◌∷◌, length, map, get_or, Some, refl, sym, ap, ◌∙◌, arith}
use Rattle.std.specs.Prelude.{slice_get, nat_lt, nat_le}
use Rattle.std.specs.List.{list_all}
use Rattle.std.proofs.lemmas.Bool.{ltb-true, leb-true, lt-ltb, le-leb, and_parts}
use Rattle.std.proofs.lemmas.Option.{slice_get_within}
use Rattle.elf_image.specs.declared.segments.Segment.{Segment}
use Rattle.elf_image.specs.Images.{ImageData, SegmentData, segment_data, segment_contains, byte_in_segments, image_byte, are_segments_disjoint, are_all_segments_disjoint}
use Rattle.cfg_recover.specs.HeldBytes.{image_bytes_at, SegmentHoldsBytes}

or_cases : (a b : Bool) → (a || b) ≡ true → (a ≡ true) ⊎ (b ≡ true)
or_cases true b e = inl refl
or_cases false b e = inr e

-- a segment shares no address with the segments after it
apart_one : (s : SegmentData) (ss : List SegmentData) (i : ℕ) (t : SegmentData) → list_all (are_segments_disjoint s) ss ≡ true → slice_get ss i ≡ Some t → (nat_le (s.at + length s.bytes) t.at ≡ true) ⊎ (nat_le (t.at + length t.bytes) s.at ≡ true)
apart_one s [] i t h e = cc
apart_one s (u ∷ us) zero t h e =
    let same : u ≡ t = cc in
    let p = and_parts (are_segments_disjoint s u) (list_all (are_segments_disjoint s) us) h in
    or_cases (nat_le (s.at + length s.bytes) t.at) (nat_le (t.at + length t.bytes) s.at) (ap (λ (x : SegmentData). are_segments_disjoint s x) (sym same) ∙ p.0)
apart_one s (u ∷ us) (suc i) t h e = apart_one s us i t (and_parts (are_segments_disjoint s u) (list_all (are_segments_disjoint s) us) h).1 e

-- it doesn't hold an address that another one has
not_both : (s t : SegmentData) (x : ℕ) → (nat_le (s.at + length s.bytes) t.at ≡ true) ⊎ (nat_le (t.at + length t.bytes) s.at ≡ true) → t.at ≤ x → x < t.at + length t.bytes → segment_contains s x ≡ false
not_both s t x o low high = by (segment_contains s x) refl o
  where
    by : (b : Bool) → segment_contains s x ≡ b → (nat_le (s.at + length s.bytes) t.at ≡ true) ⊎ (nat_le (t.at + length t.bytes) s.at ≡ true) → b ≡ false
    by false h o = refl
    by true h (inl l) =
        let p = and_parts (nat_le s.at x) (nat_lt x (s.at + length s.bytes)) h in
        let above = ltb-true x (s.at + length s.bytes) p.1 in
        let less = leb-true (s.at + length s.bytes) t.at l in
        absurd (omega arith)
    by true h (inr l) =
        let p = and_parts (nat_le s.at x) (nat_lt x (s.at + length s.bytes)) h in
        let below = leb-true s.at x p.0 in
        let less = leb-true (t.at + length t.bytes) s.at l in
        absurd (omega arith)

both : (a b : Bool) → a ≡ true → b ≡ true → (a && b) ≡ true
both a b p q = rw (p, q) refl

-- the byte at an address is the one in the segment that has the address
byte_there : (ss : List SegmentData) (i : ℕ) (t : SegmentData) (x b : ℕ) → are_all_segments_disjoint ss ≡ true → slice_get ss i ≡ Some t → t.at ≤ x → slice_get t.bytes (x - t.at) ≡ Some b → byte_in_segments ss x ≡ Some b
byte_there [] i t x b apart e low h = cc
byte_there (s ∷ ss) zero t x b apart e low h =
    let same : s ≡ t = cc in
    let within = slice_get_within t.bytes (x - t.at) b h in
    let l : nat_le t.at x ≡ true = le-leb t.at x (omega arith) in
    let g : nat_lt x (t.at + length t.bytes) ≡ true = lt-ltb x (t.at + length t.bytes) (omega arith) in
    let there : segment_contains t x ≡ true = both (nat_le t.at x) (nat_lt x (t.at + length t.bytes)) l g in
    ap (λ (u : SegmentData). cond (segment_contains u x) (slice_get u.bytes (x - u.at)) (byte_in_segments ss x)) same
    ∙ ap (λ b. cond b (slice_get t.bytes (x - t.at)) (byte_in_segments ss x)) there
    ∙ h
byte_there (s ∷ ss) (suc i) t x b apart e low h =
    let p = and_parts (list_all (are_segments_disjoint s) ss) (are_all_segments_disjoint ss) apart in
    let within = slice_get_within t.bytes (x - t.at) b h in
    let not_here = not_both s t x (apart_one s ss i t p.0 e) low (omega arith) in
    ap (λ b. cond b (slice_get s.bytes (x - s.at)) (byte_in_segments ss x)) not_here
    ∙ byte_there ss i t x b p.1 e low h

-- bytes of one segment are bytes of the image
pub held_in : (image : ImageData) (i : ℕ) (t : SegmentData) (bs : List ℕ) (x : ℕ) → are_all_segments_disjoint image.segments ≡ true → slice_get image.segments i ≡ Some t → SegmentHoldsBytes t x bs → image_bytes_at image x (length bs) ≡ Some bs
held_in image i t [] x apart e h = refl
held_in image i t (b ∷ bs) x apart e h =
    let here : image_byte image x ≡ Some b = byte_there image.segments i t x b apart e h.0 h.1 in
    let rest : image_bytes_at image (x + 1) (length bs) ≡ Some bs = held_in image i t bs (x + 1) apart e h.2 in
    rw (here, rest) refl

-- a segment of the image in memory is one of its segments as data
pub segment_there : (ss : List Segment) (i : ℕ) (t : Segment) → i < length ss → t ≡ get_or ss i t → slice_get (map segment_data ss) i ≡ Some (segment_data t)
segment_there [] i t h e = absurd (omega arith)
segment_there (s ∷ ss) zero t h e = ap (λ (u : Segment). Some (segment_data u)) (sym e)
segment_there (s ∷ ss) (suc i) t h e = segment_there ss i t (omega arith) e

-- four bytes of a segment of the image in memory are bytes of the image as data
pub held_four : (inside image : ImageData) (ss : List Segment) (i : ℕ) (t : Segment) (bs : List ℕ) (x : ℕ) → inside ≡ image → are_all_segments_disjoint inside.segments ≡ true → inside.segments ≡ map segment_data ss
    → i < length ss → t ≡ get_or ss i t → SegmentHoldsBytes (segment_data t) x bs → length bs ≡ 4 → image_bytes_at image x 4 ≡ Some bs
held_four inside image ss i t bs x same apart are lt at stands four =
    let there : slice_get inside.segments i ≡ Some (segment_data t) = ap (λ (l : List SegmentData). slice_get l i) are ∙ segment_there ss i t lt at in
    let held : image_bytes_at inside x (length bs) ≡ Some bs = held_in inside i (segment_data t) bs x apart there stands in
    ap (λ (d : ImageData). image_bytes_at d x 4) (sym same) ∙ ap (λ (n : ℕ). image_bytes_at inside x n) (sym four) ∙ held

-- so is one byte
pub held_byte : (inside image : ImageData) (ss : List Segment) (i : ℕ) (t : Segment) (b x : ℕ) → inside ≡ image → are_all_segments_disjoint inside.segments ≡ true → inside.segments ≡ map segment_data ss
    → i < length ss → t ≡ get_or ss i t → SegmentHoldsBytes (segment_data t) x (b ∷ []) → image_byte image x ≡ Some b
held_byte inside image ss i t b x same apart are lt at stands =
    let there : slice_get inside.segments i ≡ Some (segment_data t) = ap (λ (l : List SegmentData). slice_get l i) are ∙ segment_there ss i t lt at in
    ap (λ (d : ImageData). image_byte d x) (sym same) ∙ byte_there inside.segments i (segment_data t) x b apart there stands.0 stands.1
