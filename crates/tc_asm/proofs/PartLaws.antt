-- Writes into one section.
use Rattle.std.proofs.Common.{◌≡◌, ◌<◌, ◌+◌, ◌-◌, ◌++◌, ℕ, zero, suc, List, [], ◌∷◌, map, length, take, replicate, get_or, set, Some, ap, sym, ◌∙◌, arith, length-append, append-nil, append_assoc}
use Rattle.std.specs.Prelude.{slice_get}
use Rattle.std.specs.Option.{option_map_or}
use Rattle.std.proofs.lemmas.List.{length-map, length-replicate, get_or-map, map-set, take_all}
use Rattle.std.proofs.lemmas.Option.{slice_get-get_or}
use Rattle.tc_asm.specs.declared.sections.Part.{Part}
use Rattle.tc_asm.specs.Drafts.{DraftSectionData, UseData, with_section_bytes, with_section_use}
use Rattle.tc_asm.specs.DraftViews.{draft_section_of}

module _ (change : DraftSectionData → DraftSectionData) where
  changed-set : (parts : List Part) (i : ℕ) (d p : Part) → i < length parts → draft_section_of p ≡ change (draft_section_of (get_or parts i d))
      → map draft_section_of (set parts i p) ≡ option_map_or (λ q. set (map draft_section_of parts) i (change q)) (slice_get (map draft_section_of parts) i) (map draft_section_of parts)
  changed-set parts i d p h e =
      let within : i < length (map draft_section_of parts) = rw (length-map parts draft_section_of) h in
      let there = slice_get-get_or (map draft_section_of parts) i (draft_section_of d) within in
      let here = get_or-map draft_section_of parts i d (draft_section_of d) h in
      map-set draft_section_of parts i p
      ∙ ap (set (map draft_section_of parts) i) e
      ∙ sym (ap (λ o. option_map_or (λ q. set (map draft_section_of parts) i (change q)) o (map draft_section_of parts)) (there ∙ ap (λ q. Some q) here))

pub extended-set : (parts : List Part) (i : ℕ) (d p : Part) (bs : List ℕ) → i < length parts
    → draft_section_of p ≡ record (draft_section_of (get_or parts i d)) { bytes = (draft_section_of (get_or parts i d)).bytes ++ bs }
    → map draft_section_of (set parts i p) ≡ with_section_bytes (map draft_section_of parts) i bs
unfolding with_section_bytes
extended-set parts i d p bs h e = changed-set (λ q. record q { bytes = q.bytes ++ bs }) parts i d p h e

pub used-set : (parts : List Part) (i : ℕ) (d p : Part) (u : UseData) → i < length parts
    → draft_section_of p ≡ record (draft_section_of (get_or parts i d)) { uses = (draft_section_of (get_or parts i d)).uses ++ u ∷ [] }
    → map draft_section_of (set parts i p) ≡ with_section_use (map draft_section_of parts) i u
unfolding with_section_use
used-set parts i d p u h e = changed-set (λ q. record q { uses = q.uses ++ u ∷ [] }) parts i d p h e

-- ---- zeros that are only counted
pub length-zeros : (xs : List ℕ) (n : ℕ) → length (xs ++ replicate n 0) ≡ length xs + n
length-zeros xs n =
    let zs : List ℕ = replicate n 0 in
    let many : length zs ≡ n = length-replicate n 0 in
    omega (arith, length-append xs zs, many)

-- none are between the bytes and those that are added
pub no_zeros : (xs bs : List ℕ) (n : ℕ) → n ≡ 0 → (xs ++ bs) ++ replicate n 0 ≡ (xs ++ replicate n 0) ++ bs
no_zeros xs bs zero h = append-nil (xs ++ bs) ∙ ap (λ ys. ys ++ bs) (sym (append-nil xs))
no_zeros xs bs (suc n) h = absurd (omega arith)

zeros_more : (m n : ℕ) → replicate {A = ℕ} (m + n) 0 ≡ replicate m 0 ++ replicate n 0
zeros_more zero n = let same : 0 + n ≡ n = omega arith in ap (λ (k : ℕ). replicate {A = ℕ} k 0) same
zeros_more (suc m) n =
    let same : suc m + n ≡ suc (m + n) = omega arith in
    ap (λ (k : ℕ). replicate {A = ℕ} k 0) same ∙ ap (λ (xs : List ℕ). 0 ∷ xs) (zeros_more m n)

-- further zeros
pub more_zeros : (xs : List ℕ) (m n : ℕ) → xs ++ replicate (m + n) 0 ≡ (xs ++ replicate m 0) ++ replicate n 0
more_zeros xs m n = ap (λ (ys : List ℕ). xs ++ ys) (zeros_more m n) ∙ sym (append_assoc xs (replicate m 0) (replicate n 0))

-- a list of this length that is filled up with zeros
pub filled : (xs : List ℕ) (m n k : ℕ) → n ≡ length xs + m → k ≡ length xs → take n xs ++ replicate (n - k) 0 ≡ xs ++ replicate m 0
filled xs m n k h l =
    let left : n - k ≡ m = omega arith in
    ap (λ (ys : List ℕ). ys ++ replicate (n - k) 0) (take_all n xs (omega arith))
    ∙ ap (λ (j : ℕ). xs ++ replicate j 0) left
