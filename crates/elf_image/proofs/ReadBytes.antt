-- Laws of the bytes of segments: read one after another, and looked up at an address.
use Rattle.std.proofs.Common.{◌≡◌, ℕ, zero, suc, ◌+◌, ◌-◌, ◌^◌, ◌<◌, ◌∙◌, inl, inr, List, [], ◌∷◌, length, map, get_or, slice_get, Some, sym, ap, subst, arith}
use Rattle.std.specs.Prelude.{All}
use Rattle.std.proofs.lemmas.Bool.{cases_lt, cases_Bool}
use Rattle.std.proofs.lemmas.List.{get_or-map}
use Rattle.elf_image.specs.declared.segments.Segment.{Segment}
use Rattle.elf_image.specs.Images.{SegmentData, segment_data, HoldOnlyBytes, segment_contains, byte_in_segments}

-- one segment more has bytes
pub bytes_more : (segments : List Segment) (i : ℕ) (x : Segment) (bs : List ℕ) → i < length segments → x ≡ get_or segments i x → bs ≡ x.bytes.items → All (λ b. b < 2 ^ 8) bs
    → ((k : ℕ) (d : SegmentData) → k < i → All (λ b. b < 2 ^ 8) (get_or (map segment_data segments) k d).bytes)
    → (k : ℕ) (d : SegmentData) → k < i + 1 → All (λ b. b < 2 ^ 8) (get_or (map segment_data segments) k d).bytes
bytes_more segments i x bs within is bytes here before k d h =
    elim (cases_lt k i) [
      | inl less ↦ before k d less
      | inr last ↦
          let same : k ≡ i = omega arith in
          let there : bs ≡ (get_or (map segment_data segments) k d).bytes =
          bytes ∙ ap (λ (s : Segment). s.bytes.items) is ∙ ap (λ (s : SegmentData). s.bytes) (sym (get_or-map segment_data segments i x d within)) ∙ ap (λ j. (get_or (map segment_data segments) j d).bytes) (sym same) in
          subst (λ (xs : List ℕ). All (λ b. b < 2 ^ 8) xs) there here
    ]

-- ---- the byte at an address
got_lt : (xs : List ℕ) (k b : ℕ) → All (λ x. x < 2 ^ 8) xs → slice_get xs k ≡ Some b → b < 2 ^ 8
got_lt [] k b all e = cc
got_lt (x ∷ xs) zero b all e = let same : x ≡ b = cc in subst (λ y. y < 2 ^ 8) same (all 0 0 (omega arith))
got_lt (x ∷ xs) (suc k) b all e = got_lt xs k b (λ j d lt. all (suc j) d (omega arith)) e

-- a byte of segments is below 256
pub byte_lt : (ss : List SegmentData) (x b : ℕ) → HoldOnlyBytes ss → byte_in_segments ss x ≡ Some b → b < 2 ^ 8
byte_lt [] x b all e = cc
byte_lt (s ∷ ss) x b all e =
    elim (cases_Bool (segment_contains s x)) [
      | inl here ↦ got_lt s.bytes (x - s.at) b (all 0 s (omega arith)) (rw here at e)
      | inr apart ↦ byte_lt ss x b (λ j d lt. all (suc j) d (omega arith)) (rw apart at e)
    ]
