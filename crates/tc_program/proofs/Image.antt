-- The addresses of the bytes of sections in the segments of an image.
use Rattle.std.proofs.Common.{◌≡◌, ◌<◌, ◌≤◌, ◌+◌, ◌-◌, ◌⊎◌, ◌||◌, inl, inr, ℕ, zero, suc, Bool, true, false, cond, List, [], ◌∷◌, ◌++◌, length, take, map, replicate, Some, refl, sym, ap, ◌∙◌, arith, append_assoc}
use Rattle.std.specs.Prelude.{slice_get, fold, find, nat_lt, nat_le}
use Rattle.std.specs.List.{list_all}
use Rattle.std.specs.Str.{bytes_eq}
use Rattle.std.proofs.lemmas.Bool.{ltb-true, leb-true, lt-ltb, le-leb, and_parts, and_from, or_cases}
use Rattle.std.proofs.lemmas.List.{append-nil}
use Rattle.std.proofs.lemmas.List.Sums.{fold-append}
use Rattle.std.proofs.lemmas.Option.{slice_get_within}
use Rattle.std.proofs.lemmas.Slice.Eq.{bytes_eq-Decides}
use Rattle.elf_image.specs.Images.{SegmentData, segment_contains, byte_in_segments, are_segments_disjoint, are_all_segments_disjoint}
use Rattle.tc_object.specs.Objects.{SectionData, AllInTurn}
use Rattle.tc_link.specs.Layouts.{PlaceData, IsPlaceAfter, has_place_for, place_of}
use Rattle.tc_link.specs.PlaceSizes.{next_multiple_of_4, used_place_size}
use Rattle.tc_link.specs.Segments.{with_segment_padding, with_section_of_name, joined_sections}
use Rattle.tc_link.specs.Shapes.{SectionShape, section_shape}
use Rattle.tc_link.proofs.ShapeLaws.{length-joined, taken-shapes, padded_length}
use Rattle.tc_stmt.proofs.ListItems.{get_short, in_front_or_rest, InRest, map_get, map_at, map_take}

-- ---- the bytes of a place
-- the bytes so far remain at the start
record Longer (name before : List ℕ) (ss : List SectionData) : Type 0 where
  more : List ℕ
  is : fold (with_section_of_name name) before ss ≡ before ++ more

stays : (name : List ℕ) (ss : List SectionData) (before : List ℕ) → Longer name before ss
stays name [] before = record { more = []; is = sym (append-nil before) }
stays name (s ∷ ss) before = by (bytes_eq name s.name) refl (stays name ss (with_section_of_name name before s))
  where
    zeros : List ℕ
    zeros = replicate (next_multiple_of_4 (length before) - length before) 0

    by : (b : Bool) → bytes_eq name s.name ≡ b → Longer name (with_section_of_name name before s) ss → Longer name before (s ∷ ss)
    by true e h = record {
      more = zeros ++ (s.bytes ++ h.more);
      is = h.is ∙ ap (λ b. cond b (with_segment_padding before ++ s.bytes) before ++ h.more) e ∙ append_assoc (with_segment_padding before) s.bytes h.more ∙ append_assoc before zeros (s.bytes ++ h.more);
    }
    by false e h = record { more = h.more; is = h.is ∙ ap (λ b. cond b (with_segment_padding before ++ s.bytes) before ++ h.more) e }

-- a section is after those of its name, at a multiple of 4
pub record Stands (name : List ℕ) (before : List SectionData) (s : SectionData) (after : List SectionData) : Type 0 where
  pub front : List ℕ
  pub rest : List ℕ
  pub is : joined_sections name (before ++ s ∷ after) ≡ front ++ (s.bytes ++ rest)
  pub place : length front ≡ next_multiple_of_4 (used_place_size name before)

pub stands : (name : List ℕ) (before : List SectionData) (s : SectionData) (after : List SectionData) → bytes_eq name s.name ≡ true → Stands name before s after
unfolding joined_sections
stands name before s after e =
    let h = stays name after (with_section_of_name name (fold (with_section_of_name name) [] before) s) in
    record {
      front = with_segment_padding (fold (with_section_of_name name) [] before);
      rest = h.more;
      is = fold-append (with_section_of_name name) [] before (s ∷ after) ∙ h.is
          ∙ ap (λ b. cond b (with_segment_padding (fold (with_section_of_name name) [] before) ++ s.bytes) (fold (with_section_of_name name) [] before) ++ h.more) e
          ∙ append_assoc (with_segment_padding (fold (with_section_of_name name) [] before)) s.bytes h.more;
      place = padded_length (fold (with_section_of_name name) [] before) ∙ ap next_multiple_of_4 (length-joined name before);
    }

-- ---- the bytes of a place
-- a place in a section of this name, which begins after the sections before it
pub record InSection (name : List ℕ) (ss : List SectionData) (start : List SectionData → ℕ) (k : ℕ) : Type 0 where
  pub at : ℕ
  pub section : SectionData
  pub is_section : slice_get ss at ≡ Some section
  pub named : bytes_eq name section.name ≡ true
  pub low : start (take at ss) ≤ k
  pub high : k < start (take at ss) + length section.bytes

zero_in : (n k b : ℕ) → slice_get (replicate n 0) k ≡ Some b → b ≡ 0
zero_in zero k b e = cc
zero_in (suc n) zero b e = cc
zero_in (suc n) (suc k) b e = zero_in n k b e

-- in the padding, or before it
pad_byte : (before : List ℕ) (k b : ℕ) → slice_get (with_segment_padding before) k ≡ Some b → (k < length before) ⊎ (b ≡ 0)
pad_byte before k b e = by (in_front_or_rest before (replicate (next_multiple_of_4 (length before) - length before) 0) k b e)
  where
    by : (slice_get before k ≡ Some b) ⊎ InRest ℕ before (replicate (next_multiple_of_4 (length before) - length before) 0) k b → (k < length before) ⊎ (b ≡ 0)
    by (inl h) = inl (slice_get_within before k b h)
    by (inr r) = inr (zero_in (next_multiple_of_4 (length before) - length before) r.at b r.is)

abbrev starts_behind : List ℕ → List ℕ → List SectionData → ℕ
starts_behind name before ss = next_multiple_of_4 (length (fold (with_section_of_name name) before ss))

in_joined : (name : List ℕ) (ss : List SectionData) (before : List ℕ) (k b : ℕ) → slice_get (fold (with_section_of_name name) before ss) k ≡ Some b →
    (k < length before) ⊎ ((b ≡ 0) ⊎ InSection name ss (starts_behind name before) k)
in_joined name [] before k b e = inl (slice_get_within before k b e)
in_joined name (s ∷ ss) before k b e = by_rest (in_joined name ss (with_section_of_name name before s) k b e)
  where
    -- a byte in front stays
    byte_in_front : k < length (with_section_of_name name before s) → slice_get (with_section_of_name name before s) k ≡ Some b
    byte_in_front h =
        let l = stays name ss (with_section_of_name name before s) in
        sym (get_short (with_section_of_name name before s) l.more k h) ∙ ap (λ (bs : List ℕ). slice_get bs k) (sym l.is) ∙ e

    in_this : (t : Bool) → bytes_eq name s.name ≡ t → slice_get (cond t (with_segment_padding before ++ s.bytes) before) k ≡ Some b → (k < length before) ⊎ ((b ≡ 0) ⊎ InSection name (s ∷ ss) (starts_behind name before) k)
    in_this true named g = by_part (in_front_or_rest (with_segment_padding before) s.bytes k b g)
      where
        by_pad : (k < length before) ⊎ (b ≡ 0) → (k < length before) ⊎ ((b ≡ 0) ⊎ InSection name (s ∷ ss) (starts_behind name before) k)
        by_pad (inl h) = inl h
        by_pad (inr h) = inr (inl h)

        by_part : (slice_get (with_segment_padding before) k ≡ Some b) ⊎ InRest ℕ (with_segment_padding before) s.bytes k b → (k < length before) ⊎ ((b ≡ 0) ⊎ InSection name (s ∷ ss) (starts_behind name before) k)
        by_part (inl h) = by_pad (pad_byte before k b h)
        by_part (inr r) =
            let p = r.place in
            let within = slice_get_within s.bytes r.at b r.is in
            let size = padded_length before in
            inr (inr (record { at = 0; section = s; is_section = refl; named = named; low = omega arith; high = omega arith }))
    in_this false named g = inl (slice_get_within before k b g)

    by_rest : (k < length (with_section_of_name name before s)) ⊎ ((b ≡ 0) ⊎ InSection name ss (starts_behind name (with_section_of_name name before s)) k)
        → (k < length before) ⊎ ((b ≡ 0) ⊎ InSection name (s ∷ ss) (starts_behind name before) k)
    by_rest (inl h) = in_this (bytes_eq name s.name) refl (byte_in_front h)
    by_rest (inr (inl h)) = inr (inl h)
    by_rest (inr (inr r)) = inr (inr (record { at = suc r.at; section = r.section; is_section = r.is_section; named = r.named; low = r.low; high = r.high }))

starts_same : (name : List ℕ) (ss : List SectionData) (k : ℕ) → InSection name ss (starts_behind name []) k → InSection name ss (λ before. next_multiple_of_4 (used_place_size name before)) k
unfolding joined_sections
starts_same name ss k h =
    let same : starts_behind name [] (take h.at ss) ≡ next_multiple_of_4 (used_place_size name (take h.at ss)) = ap next_multiple_of_4 (length-joined name (take h.at ss)) in
    let low = h.low in
    let high = h.high in
    record { at = h.at; section = h.section; is_section = h.is_section; named = h.named; low = omega arith; high = omega arith }

pub joined_byte : (name : List ℕ) (ss : List SectionData) (k b : ℕ) → slice_get (joined_sections name ss) k ≡ Some b → (b ≡ 0) ⊎ InSection name ss (λ before. next_multiple_of_4 (used_place_size name before)) k
unfolding joined_sections
joined_byte name ss k b e = by (in_joined name ss [] k b e)
  where
    by : (k < length {A = ℕ} []) ⊎ ((b ≡ 0) ⊎ InSection name ss (starts_behind name []) k) → (b ≡ 0) ⊎ InSection name ss (λ before. next_multiple_of_4 (used_place_size name before)) k
    by (inl h) = absurd (omega arith)
    by (inr (inl h)) = inl h
    by (inr (inr r)) = inr (starts_same name ss k r)

-- ---- the same of sections of the same shapes
pub shaped_at : (ss ts : List SectionData) (i : ℕ) (s : SectionData) → map section_shape ss ≡ map section_shape ts → slice_get ss i ≡ Some s → (t : SectionData) × (slice_get ts i ≡ Some t) × (section_shape t ≡ section_shape s)
shaped_at ss ts i s e h =
    let f = map_at section_shape ts i (section_shape s) (ap (λ (l : List SectionShape). slice_get l i) (sym e) ∙ map_get section_shape ss i s h) in
    (f.item, f.is_item, f.is)

pub taken_front : (name : List ℕ) (ss ts : List SectionData) (i : ℕ) → map section_shape ss ≡ map section_shape ts → used_place_size name (take i ss) ≡ used_place_size name (take i ts)
taken_front name ss ts i e = taken-shapes name (take i ss) (take i ts) (map_take section_shape ss i ∙ ap (take i) e ∙ sym (map_take section_shape ts i))

pub in_shaped : (name : List ℕ) (ss ts : List SectionData) (k : ℕ) → map section_shape ss ≡ map section_shape ts → InSection name ss (λ before. next_multiple_of_4 (used_place_size name before)) k → InSection name ts (λ before. next_multiple_of_4 (used_place_size name before)) k
in_shaped name ss ts k e h =
    let t = shaped_at ss ts h.at h.section e h.is_section in
    let front = ap next_multiple_of_4 (taken_front name ss ts h.at e) in
    let size : length t.0.bytes ≡ length h.section.bytes = ap (λ (x : SectionShape). x.size) t.2 in
    let low = h.low in
    let high = h.high in
    record {
      at = h.at;
      section = t.0;
      is_section = t.1;
      named = ap (λ (x : SectionShape). bytes_eq name x.name) t.2 ∙ h.named;
      low = omega arith;
      high = omega arith;
    }

-- ---- the segment of an address
apart_all : (s : SegmentData) (ss : List SegmentData) (i : ℕ) (t : SegmentData) → list_all (are_segments_disjoint s) ss ≡ true → slice_get ss i ≡ Some t → are_segments_disjoint s t ≡ true
apart_all s [] i t all e = cc
apart_all s (x ∷ xs) zero t all e = let same : x ≡ t = cc in ap (are_segments_disjoint s) (sym same) ∙ (and_parts (are_segments_disjoint s x) (list_all (are_segments_disjoint s) xs) all).0
apart_all s (x ∷ xs) (suc i) t all e = apart_all s xs i t (and_parts (are_segments_disjoint s x) (list_all (are_segments_disjoint s) xs) all).1 e

not_both : (s t : SegmentData) (x : ℕ) → are_segments_disjoint s t ≡ true → t.at ≤ x → x < t.at + length t.bytes → segment_contains s x ≡ false
not_both s t x apart low high = by (segment_contains s x) refl (or_cases (nat_le (s.at + length s.bytes) t.at) (nat_le (t.at + length t.bytes) s.at) apart)
  where
    by : (b : Bool) → segment_contains s x ≡ b → (nat_le (s.at + length s.bytes) t.at ≡ true) ⊎ (nat_le (t.at + length t.bytes) s.at ≡ true) → b ≡ false
    by false h o = refl
    by true h (inl l) =
        let p = and_parts (nat_le s.at x) (nat_lt x (s.at + length s.bytes)) h in
        let above = ltb-true x (s.at + length s.bytes) p.1 in
        let less = leb-true (s.at + length s.bytes) t.at l in
        absurd (omega arith)
    by true h (inr l) =
        let p = and_parts (nat_le s.at x) (nat_lt x (s.at + length s.bytes)) h in
        let below = leb-true s.at x p.0 in
        let less = leb-true (t.at + length t.bytes) s.at l in
        absurd (omega arith)

-- if no two segments share an address, the byte at an address is that of the segment that holds it
pub byte_here : (ss : List SegmentData) (i : ℕ) (t : SegmentData) (k b : ℕ) → are_all_segments_disjoint ss ≡ true → slice_get ss i ≡ Some t → slice_get t.bytes k ≡ Some b → byte_in_segments ss (t.at + k) ≡ Some b
byte_here [] i t k b apart e h = cc
byte_here (s ∷ ss) zero t k b apart e h =
    let same : s ≡ t = cc in
    let within = slice_get_within t.bytes k b h in
    let low : nat_le t.at (t.at + k) ≡ true = le-leb t.at (t.at + k) (omega arith) in
    let high : nat_lt (t.at + k) (t.at + length t.bytes) ≡ true = lt-ltb (t.at + k) (t.at + length t.bytes) (omega arith) in
    let there : segment_contains t (t.at + k) ≡ true = and_from (nat_le t.at (t.at + k)) (nat_lt (t.at + k) (t.at + length t.bytes)) low high in
    let back : t.at + k - t.at ≡ k = omega arith in
    ap (λ (x : SegmentData). cond (segment_contains x (t.at + k)) (slice_get x.bytes (t.at + k - x.at)) (byte_in_segments ss (t.at + k))) same
    ∙ ap (λ b. cond b (slice_get t.bytes (t.at + k - t.at)) (byte_in_segments ss (t.at + k))) there
    ∙ ap (slice_get t.bytes) back ∙ h
byte_here (s ∷ ss) (suc i) t k b apart e h =
    let p = and_parts (list_all (are_segments_disjoint s) ss) (are_all_segments_disjoint ss) apart in
    let within = slice_get_within t.bytes k b h in
    let not_here = not_both s t (t.at + k) (apart_all s ss i t p.0 e) (omega arith) (omega arith) in
    ap (λ b. cond b (slice_get s.bytes (t.at + k - s.at)) (byte_in_segments ss (t.at + k))) not_here
    ∙ byte_here ss i t k b p.1 e h

-- the segment that holds an address
pub record InSegment (ss : List SegmentData) (q b : ℕ) : Type 0 where
  pub at : ℕ
  pub segment : SegmentData
  pub is_segment : slice_get ss at ≡ Some segment
  pub low : segment.at ≤ q
  pub byte : slice_get segment.bytes (q - segment.at) ≡ Some b

pub byte_from : (ss : List SegmentData) (q b : ℕ) → byte_in_segments ss q ≡ Some b → InSegment ss q b
byte_from [] q b e = cc
byte_from (s ∷ ss) q b e = by (λ g. byte_from ss q b g) (segment_contains s q) refl e
  where
    by : (byte_in_segments ss q ≡ Some b → InSegment ss q b) → (t : Bool) → segment_contains s q ≡ t → cond t (slice_get s.bytes (q - s.at)) (byte_in_segments ss q) ≡ Some b → InSegment (s ∷ ss) q b
    by rec true h g = record { at = 0; segment = s; is_segment = refl; low = leb-true s.at q (and_parts (nat_le s.at q) (nat_lt q (s.at + length s.bytes)) h).0; byte = g }
    by rec false h g = let r = rec g in record { at = suc r.at; segment = r.segment; is_segment = r.is_segment; low = r.low; byte = r.byte }

-- ---- places

same_name : (bs : List ℕ) → bytes_eq bs bs ≡ true
same_name bs = (bytes_eq-Decides bs bs).1 refl

find_behind : (before : List PlaceData) (p : PlaceData) (after : List PlaceData) → has_place_for before p.section ≡ false → find (λ (q : PlaceData). bytes_eq p.section q.section) (before ++ p ∷ after) ≡ Some p
find_behind [] p after e = ap (λ b. cond b (Some p) (find (λ (q : PlaceData). bytes_eq p.section q.section) after)) (same_name p.section)
find_behind (x ∷ xs) p after e = by (bytes_eq p.section x.section) e (find_behind xs p after)
  where
    by : (b : Bool) → (b || has_place_for xs p.section) ≡ false → (has_place_for xs p.section ≡ false → find (λ (q : PlaceData). bytes_eq p.section q.section) (xs ++ p ∷ after) ≡ Some p)
        → cond b (Some x) (find (λ (q : PlaceData). bytes_eq p.section q.section) (xs ++ p ∷ after)) ≡ Some p
    by true f rec = cc
    by false f rec = rec f

alone_from : (before places : List PlaceData) (i : ℕ) (p : PlaceData) → AllInTurn IsPlaceAfter before places → slice_get places i ≡ Some p → find (λ (q : PlaceData). bytes_eq p.section q.section) (before ++ places) ≡ Some p
alone_from before [] i p turn e = cc
alone_from before (x ∷ xs) zero p turn e =
    let same : x ≡ p = cc in
    ap (λ (y : PlaceData). find (λ (q : PlaceData). bytes_eq p.section q.section) (before ++ y ∷ xs)) same
    ∙ find_behind before p xs (ap (λ (y : PlaceData). has_place_for before y.section) (sym same) ∙ turn.0.new)
alone_from before (x ∷ xs) (suc i) p turn e =
    ap (find (λ (q : PlaceData). bytes_eq p.section q.section)) (sym (append_assoc before (x ∷ []) xs))
    ∙ alone_from (before ++ x ∷ []) xs i p turn.1 e

pub place_alone : (places : List PlaceData) (i : ℕ) (p : PlaceData) → AllInTurn IsPlaceAfter [] places → slice_get places i ≡ Some p → place_of places p.section ≡ Some p
place_alone places i p turn e = alone_from [] places i p turn e
