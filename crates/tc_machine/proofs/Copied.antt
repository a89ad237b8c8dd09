-- The copy of segments' bytes into memory, one segment after another.
use Rattle.std.proofs.Common.{◌≡◌, ◌+◌, ◌-◌, ◌^◌, ◌<◌, ◌≤◌, ◌⊎◌, ◌&&◌, ℕ, Bool, true, false, cond, List, [], ◌∷◌, length, get_or, take, drop, map, min, max, Option, Some, None, inl, inr, refl, sym, ap, subst, ◌∙◌, arith}
use Rattle.std.specs.Prelude.{is_some, nat_le, nat_lt, slice_get}
use Rattle.std.specs.List.{list_all}
use Rattle.std.proofs.lemmas.Bool.{cases_lt, le-leb, lt-leb, lt-ltb, le-ltb, leb-true}
use Rattle.std.proofs.lemmas.List.{drop_more, drop_all, get_or-map, length-map}
use Rattle.std.proofs.lemmas.List.Edits.{length-between, get_or-between}
use Rattle.std.proofs.lemmas.List.Folds.{list_all_at}
use Rattle.std.proofs.lemmas.Option.{slice_get-get_or}
use Rattle.std.specs.FinMap as finite
use Rattle.std.specs.FinMap.{same_map, nat_cmp-IsAntisymmetric}
use Rattle.std.specs.Cmp.{nat_cmp_total}
use Rattle.csa_chain.specs.MemoryBytes.{Memory, is_mapped}
use Rattle.elf_image.specs.declared.segments.Segment.{Segment}
use Rattle.elf_image.specs.Images.{ImageData, SegmentData, segment_data, is_segment, byte_in_segments, image_byte}
use Rattle.tcd_base.specs.declared.range.Range.{Range}
use Rattle.tc_mem.specs.Written.{IsMemoryWritten}
use Rattle.tc_machine.specs.Starting.{with_image_in_range, AreSegmentsCopied}
use Rattle.tc_machine.proofs.Filled.{image_mapped, image_none, image_outside, image_put}

-- ---- the byte of a segment
held_or_not : (s : SegmentData) (q : ℕ) → ((s.at ≤ q) × (q < s.at + length s.bytes)) ⊎ ((q < s.at) ⊎ (s.at + length s.bytes ≤ q))
held_or_not s q =
    elim (cases_lt q s.at) [
      | inl below ↦ inr (inl below)
      | inr above ↦ elim (cases_lt q (s.at + length s.bytes)) [ inl within ↦ inl (above, within) | inr beyond ↦ inr (inr beyond) ]
    ]

byte_held : (s : SegmentData) (ss : List SegmentData) (q : ℕ) → s.at ≤ q → q < s.at + length s.bytes → byte_in_segments (s ∷ ss) q ≡ Some (get_or s.bytes (q - s.at) 0)
byte_held s ss q low high =
    let e1 : nat_le s.at q ≡ true = le-leb s.at q low in
    let e2 : nat_lt q (s.at + length s.bytes) ≡ true = lt-ltb q (s.at + length s.bytes) high in
    ap (λ (t : Bool). cond (t && nat_lt q (s.at + length s.bytes)) (slice_get s.bytes (q - s.at)) (byte_in_segments ss q)) e1
    ∙ ap (λ (t : Bool). cond t (slice_get s.bytes (q - s.at)) (byte_in_segments ss q)) e2
    ∙ slice_get-get_or s.bytes (q - s.at) 0 (omega arith)

byte_passed : (s : SegmentData) (ss : List SegmentData) (q : ℕ) → (q < s.at) ⊎ (s.at + length s.bytes ≤ q) → byte_in_segments (s ∷ ss) q ≡ byte_in_segments ss q
byte_passed s ss q (inl below) =
    ap (λ (t : Bool). cond (t && nat_lt q (s.at + length s.bytes)) (slice_get s.bytes (q - s.at)) (byte_in_segments ss q)) (lt-leb s.at q below)
byte_passed s ss q (inr beyond) =
    ap (λ (t : Bool). cond (t && nat_lt q (s.at + length s.bytes)) (slice_get s.bytes (q - s.at)) (byte_in_segments ss q)) (le-leb s.at q (omega arith))
    ∙ ap (λ (t : Bool). cond t (slice_get s.bytes (q - s.at)) (byte_in_segments ss q)) (le-ltb q (s.at + length s.bytes) beyond)

nothing : (o : Option ℕ) (x : ℕ) → o ≡ None → o ≡ Some x → ⊥
nothing o x none some = cc

-- ---- one segment

-- the bytes of the segment that are in the range are written
pub segment_copied : (s : SegmentData) (r : Range) (start end f l : ℕ) (bytes : List ℕ) (m new : Memory) → IsMemoryWritten m start (take (l - f) (drop f bytes)) new → bytes ≡ s.bytes → start ≡ max s.at r.at → end ≡ min (s.at + length s.bytes) (r.at + r.len) → start < end → f ≡ start - s.at → l ≡ end - s.at →
    AreSegmentsCopied (s ∷ []) r m new
segment_copied s r start end f l bytes m new w same start_is end_is some f_is l_is =
    let most : l ≤ length bytes = rw same (omega arith) in
    let size : length (take (l - f) (drop f bytes)) ≡ l - f = length-between bytes f l most in
    record {
      mapped = w.mapped;
      held = λ q b low high is e.
          elim (held_or_not s q) [
            | inl here ↦
                let lo = here.0 in
                let hi = here.1 in
                let place : start + (q - start) ≡ q = omega arith in
                let offset : f + (q - start) ≡ q - s.at = omega arith in
                ap (finite.get new) (sym place)
                ∙ w.here (q - start) (omega arith) (ap (is_mapped m) place ∙ is)
                ∙ ap (λ (x : ℕ). Some x) (get_or-between bytes f l (q - start) 0 (omega arith) ∙ ap (λ (i : ℕ). get_or bytes i 0) offset ∙ ap (λ (xs : List ℕ). get_or xs (q - s.at) 0) same)
                ∙ sym (byte_held s [] q lo hi)
                ∙ e
            | inr out ↦ absurd (nothing (byte_in_segments (s ∷ []) q) b (byte_passed s [] q out) e)
          ];
      outside = λ q out. w.elsewhere q (elim out [ inl below ↦ inl (omega arith) | inr beyond ↦ inr (omega arith) ]);
      none = λ q e.
          elim (held_or_not s q) [
            | inl here ↦ absurd (nothing (byte_in_segments (s ∷ []) q) (get_or s.bytes (q - s.at) 0) e (byte_held s [] q here.0 here.1))
            | inr out ↦ w.elsewhere q (elim out [ inl below ↦ inl (omega arith) | inr beyond ↦ inr (omega arith) ])
          ];
    }

-- ---- one segment after the later ones
no_segments : (r : Range) (m : Memory) → AreSegmentsCopied [] r m m
no_segments r m = record { mapped = λ q. refl; held = λ q b low high is e. cc; outside = λ q out. refl; none = λ q e. refl }

one_more : (s : SegmentData) (ss : List SegmentData) (r : Range) (m now new : Memory) → AreSegmentsCopied ss r m now → AreSegmentsCopied (s ∷ []) r now new → AreSegmentsCopied (s ∷ ss) r m new
one_more s ss r m now new before more = record {
  mapped = λ q. more.mapped q ∙ before.mapped q;
  held = λ q b low high is e.
      elim (held_or_not s q) [
        | inl here ↦ more.held q b low high (before.mapped q ∙ is) (byte_held s [] q here.0 here.1 ∙ sym (byte_held s ss q here.0 here.1) ∙ e)
        | inr out ↦ more.none q (byte_passed s [] q out) ∙ before.held q b low high is (sym (byte_passed s ss q out) ∙ e)
      ];
  outside = λ q out. more.outside q out ∙ before.outside q out;
  none = λ q e.
      elim (held_or_not s q) [
        | inl here ↦ absurd (nothing (byte_in_segments (s ∷ ss) q) (get_or s.bytes (q - s.at) 0) e (byte_held s ss q here.0 here.1))
        | inr out ↦ more.none q (byte_passed s [] q out) ∙ before.none q (sym (byte_passed s ss q out) ∙ e)
      ];
}

pub segments_begin : (segments : List Segment) (i : ℕ) (r : Range) (m : Memory) → i ≡ length segments → AreSegmentsCopied (map segment_data (drop i segments)) r m m
segments_begin segments i r m all = let none : drop i segments ≡ [] = drop_all i segments (omega arith) in rw none (no_segments r m)

pub segments_more : (segments : List Segment) (i j : ℕ) (s : Segment) (r : Range) (m now new : Memory) → i ≡ j + 1 → j < length segments → s ≡ get_or segments j s → AreSegmentsCopied (map segment_data (drop i segments)) r m now → AreSegmentsCopied (segment_data s ∷ []) r now new →
    AreSegmentsCopied (map segment_data (drop j segments)) r m new
segments_more segments i j s r m now new next lt is before more =
    let parts : drop j segments ≡ s ∷ drop i segments = drop_more segments j s lt ∙ ap (λ (x : Segment). x ∷ drop (j + 1) segments) (sym is) ∙ ap (λ (k : ℕ). s ∷ drop k segments) (sym next) in
    subst (λ (xs : List Segment). AreSegmentsCopied (map segment_data xs) r m new) (sym parts) (one_more (segment_data s) (map segment_data (drop i segments)) r m now new before more)

-- a segment among segments passes no address
both_true : (a b : Bool) → (a && b) ≡ true → b ≡ true
both_true true b h = h
both_true false b h = cc

passes : (segments : List SegmentData) (i : ℕ) (d : SegmentData) (t : Bool) → i < length segments → list_all is_segment segments ≡ true → is_segment (get_or segments i d) ≡ t → t ≡ true
passes segments i d true lt all is = refl
passes segments i d false lt all is = let false_here = list_all_at is_segment segments i d lt is in cc

pub ends_at : (segments : List Segment) (i : ℕ) (s : Segment) → i < length segments → s ≡ get_or segments i s → list_all is_segment (map segment_data segments) ≡ true → s.at + length s.bytes.items ≤ 2 ^ 32
ends_at segments i s lt is all =
    let size : length (map segment_data segments) ≡ length segments = length-map segments segment_data in
    let here : get_or (map segment_data segments) i (segment_data s) ≡ segment_data s = get_or-map segment_data segments i s (segment_data s) lt ∙ ap segment_data (sym is) in
    let good : is_segment (segment_data s) ≡ true = ap is_segment (sym here) ∙ passes (map segment_data segments) i (segment_data s) (is_segment (get_or (map segment_data segments) i (segment_data s))) (omega arith) all refl in
    leb-true (s.at + length s.bytes.items) (2 ^ 32) (both_true (nat_lt 0 (length s.bytes.items)) (nat_le (s.at + length s.bytes.items) (2 ^ 32)) good)

-- ---- the image
gone : (o : Option ℕ) → is_some o ≡ false → o ≡ None
gone None e = refl
gone (Some x) e = cc

in_range : (image : ImageData) (r : Range) (m new : Memory) → AreSegmentsCopied image.segments r m new → (q : ℕ) → r.at ≤ q → q < r.at + r.len → (o : Option ℕ) → image_byte image q ≡ o → (t : Bool) → is_mapped m q ≡ t → finite.get new q ≡ finite.get (with_image_in_range image m r.at r.len) q
in_range image r m new c q low high None e t is = c.none q e ∙ sym (image_none image m r.at r.len q e)
in_range image r m new c q low high (Some b) e true is = c.held q b low high is e ∙ sym (image_put image m r.at r.len q b low high is e)
in_range image r m new c q low high (Some b) e false is =
    gone (finite.get new q) (c.mapped q ∙ is) ∙ sym (gone (finite.get (with_image_in_range image m r.at r.len) q) (image_mapped image m r.at r.len q ∙ is))

pub copied_image : (image : ImageData) (r : Range) (m new : Memory) → AreSegmentsCopied image.segments r m new → new ≡ with_image_in_range image m r.at r.len
copied_image image r m new c =
    same_map nat_cmp_total nat_cmp-IsAntisymmetric new (with_image_in_range image m r.at r.len) (λ q.
    elim (cases_lt q r.at) [
      | inl below ↦ c.outside q (inl below) ∙ sym (image_outside image m r.at r.len q (inl below))
      | inr above ↦ elim (cases_lt q (r.at + r.len)) [
        | inl within ↦ in_range image r m new c q above within (image_byte image q) refl (is_mapped m q) refl
        | inr beyond ↦ c.outside q (inr beyond) ∙ sym (image_outside image m r.at r.len q (inr beyond))
      ]
    ])
