-- Covers of what loads give.
use Rattle.std.proofs.Common.{◌≡◌, ℕ, ◌-◌, ◌*◌, ◌/◌, ◌^◌, ◌<◌, ◌≤◌, inl, inr, Bool, true, false, List, [], ◌∷◌, map, length, refl, sym, ap, ◌∙◌, subst, arith}
use Rattle.std.proofs.lemmas.Bool.{lt-ltb}
use Rattle.std.proofs.lemmas.Bool.Decides.{nat_tests}
use Rattle.tcd_base.specs.BitFields.{sext_of}
use Rattle.csa_chain.specs.MemoryBytes.{load_result}
use Rattle.value_domain.specs.Sets.{Among, AreAmong, sorted_set_of, alignment_log2, IsExtent}
use Rattle.value_domain.specs.Limits.{Limits, AreLimits}
use Rattle.value_domain.specs.declared.values.Val.{Val}
use Rattle.value_domain.specs.declared.values.Val.TheVariants.{Span}
use Rattle.value_domain.specs.Floors.{floor, threshold_above}
use Rattle.value_domain.specs.Values.{IsInLattice, cover, multiples_in_range, any_val, span_len, first_member_quotient}
use Rattle.value_domain.proofs.SetLaws.{length-put_new, distinct-rising, length-distinct}
use Rattle.value_domain.proofs.CoverLaws.{among_range, range_among, length-multiples, rising_multiples, unit_some}
use Rattle.value_domain.proofs.ExtentLaws.{cover_span, extent_range}
use Rattle.value_domain.proofs.RangeLaws.{any_cover, many_range, range_value}
use Rattle.value_domain.proofs.LimitLaws.{floor_le, above_lt, above_le}
use Rattle.store_ranges.specs.Accesses.{IsAccessSize}
use Rattle.store_ranges.specs.Loads.{all_loaded_words}

-- ---- mapped lists
pub map_has : (f : ℕ → ℕ) (x : ℕ) (xs : List ℕ) → Among x xs → Among (f x) (map f xs)
map_has f x [] i = i
map_has f x (y ∷ ys) i = elim i [ inl e ↦ inl (ap f e) | inr j ↦ inr (map_has f x ys j) ]

pub among_map : (f : ℕ → ℕ) (z : ℕ) (xs : List ℕ) → Among z (map f xs) → (x : ℕ) × Among x xs × (z ≡ f x)
among_map f z [] i = absurd i
among_map f z (y ∷ ys) i = elim i [ inl e ↦ (y, inl refl, e) | inr j ↦ let rest = among_map f z ys j in (rest.0, inr rest.1, rest.2) ]

pub map-same : (f : ℕ → ℕ) (xs : List ℕ) → ((x : ℕ) → f x ≡ x) → map f xs ≡ xs
map-same f [] each = refl
map-same f (x ∷ xs) each = let a : f x ≡ x = each x in let r : map f xs ≡ xs = map-same f xs each in cc

-- ---- what anything is
-- a word of the range of all numbers of that size
in_all : (size x : ℕ) → x < 2 ^ (8 * size) → Among x (multiples_in_range 0 (2 ^ (8 * size) - 1) 0)
in_all size x below = among_range x 0 (2 ^ (8 * size) - 1) 0 (omega arith) (omega arith, omega arith, omega arith)

pub anything_has : (size : ℕ) (signed : Bool) (x : ℕ) → x < 2 ^ (8 * size) → Among (load_result signed size x) (all_loaded_words size signed)
anything_has size signed x below = map_has (load_result signed size) x (multiples_in_range 0 (2 ^ (8 * size) - 1) 0) (in_all size x below)

pub anything-unsigned : (b : Limits) (size : ℕ) → cover b (multiples_in_range 0 (2 ^ (8 * size) - 1) 0) ≡ cover b (all_loaded_words size false)
anything-unsigned b size = ap (cover b) (sym (map-same (load_result false size) (multiples_in_range 0 (2 ^ (8 * size) - 1) 0) (λ x. refl)))

-- small numbers stay, and the greatest becomes the greatest word
small_stays : (size x : ℕ) → IsAccessSize size → x < 128 → (load_result true size x ≡ x) × (x < 2 ^ (8 * size))
small_stays size x (inl e) below = rw e (rw (lt-ltb x 128 below) refl, omega arith)
small_stays size x (inr (inl e)) below = rw e (rw (lt-ltb x (2 ^ 15) (omega arith)) refl, omega arith)
small_stays size x (inr (inr e)) below = rw e (rw (lt-ltb x (2 ^ 31) (omega arith)) refl, omega arith)

greatest_extended : (size : ℕ) → IsAccessSize size → (load_result true size (2 ^ (8 * size) - 1) ≡ 2 ^ 32 - 1) × (2 ^ (8 * size) - 1 < 2 ^ (8 * size))
greatest_extended size (inl e) = rw e (refl, omega arith)
greatest_extended size (inr (inl e)) = rw e (refl, omega arith)
greatest_extended size (inr (inr e)) = rw e (refl, omega arith)

below_8 : (x : ℕ) → x ≤ 2 ^ 8 - 1 → sext_of x 8 ≤ 2 ^ 32 - 1
below_8 x le = grind (arith, nat_tests)

below_16 : (x : ℕ) → x ≤ 2 ^ 16 - 1 → sext_of x 16 ≤ 2 ^ 32 - 1
below_16 x le = grind (arith, nat_tests)

below_32 : (x : ℕ) → x ≤ 2 ^ 32 - 1 → sext_of x 32 ≤ 2 ^ 32 - 1
below_32 x le = grind (arith, nat_tests)

extended_le : (size x : ℕ) → IsAccessSize size → x ≤ 2 ^ (8 * size) - 1 → load_result true size x ≤ 2 ^ 32 - 1
extended_le size x (inl e) le = let l : x ≤ 2 ^ 8 - 1 = rw e at le in rw e (below_8 x l)
extended_le size x (inr (inl e)) le = let l : x ≤ 2 ^ 16 - 1 = rw e at le in rw e (below_16 x l)
extended_le size x (inr (inr e)) le = let l : x ≤ 2 ^ 32 - 1 = rw e at le in rw e (below_32 x l)

module _ (size : ℕ) (is : IsAccessSize size) where
  -- 129 of the signed words
  some_signed : AreAmong ((2 ^ 32 - 1) ∷ multiples_in_range 0 127 0) (all_loaded_words size true)
  some_signed z i =
      elim i [
        | inl e ↦
            let g = greatest_extended size is in
            subst (λ (y : ℕ). Among y (all_loaded_words size true)) (g.0 ∙ sym e) (anything_has size true (2 ^ (8 * size) - 1) g.1)
        | inr j ↦
            let m = range_among z 0 127 0 (omega arith) j in
            let s = small_stays size z is (let h : z ≤ 127 = m.1 in omega arith) in
            subst (λ (y : ℕ). Among y (all_loaded_words size true)) s.0 (anything_has size true z s.1)
      ]

  many_signed : 128 < length (sorted_set_of (all_loaded_words size true))
  unfolding sorted_set_of
  many_signed =
      let r = distinct-rising (multiples_in_range 0 127 0) (rising_multiples (span_len 0 127 0) (first_member_quotient 0 0) (2 ^ 0) (unit_some 0)) in
      let n = length-put_new (2 ^ 32 - 1) (multiples_in_range 0 127 0) (λ j. let m = range_among (2 ^ 32 - 1) 0 127 0 (omega arith) j in absurd (let h : 2 ^ 32 - 1 ≤ 127 = m.1 in omega arith)) in
      let c = length-multiples (span_len 0 127 0) (first_member_quotient 0 0) (2 ^ 0) in
      let more = length-distinct ((2 ^ 32 - 1) ∷ multiples_in_range 0 127 0) (all_loaded_words size true) some_signed in
      let more2 = rw r at more in
      omega arith

  signed_below : (z : ℕ) → Among z (all_loaded_words size true) → z ≤ 2 ^ 32 - 1
  signed_below z i =
      let x = among_map (load_result true size) z (multiples_in_range 0 (2 ^ (8 * size) - 1) 0) i in
      let m = range_among x.0 0 (2 ^ (8 * size) - 1) 0 (omega arith) x.1 in
      subst (λ (y : ℕ). y ≤ 2 ^ 32 - 1) (sym x.2) (extended_le size x.0 is m.1)

  signed_extent : IsExtent (all_loaded_words size true) 0 (2 ^ 32 - 1) 0
  unfolding alignment_log2
  signed_extent =
      let zeroth = small_stays size 0 is (omega arith) in
      let last : Among (2 ^ 32 - 1) (all_loaded_words size true) = some_signed (2 ^ 32 - 1) (inl refl) in
      record {
        low_in = subst (λ (y : ℕ). Among y (all_loaded_words size true)) zeroth.0 (anything_has size true 0 zeroth.1);
        high_in = last;
        low = λ z i. omega arith;
        high = signed_below;
        fits = λ z i. omega arith;
        small = omega arith;
        full = λ t le each. each (2 ^ 32 - 1) last;
      }

  -- the least value that holds all signed words
  pub anything-signed : (b : Limits) → AreLimits b → any_val ≡ cover b (all_loaded_words size true)
  anything-signed b limits =
      let low : floor b.thresholds 0 ≡ 0 = omega (arith, floor_le b.thresholds 0) in
      let high : threshold_above b.thresholds (2 ^ 32 - 1) ≡ 2 ^ 32 = omega (arith, above_lt b.thresholds (2 ^ 32 - 1), above_le b.thresholds (2 ^ 32 - 1) (omega arith)) in
      sym (cover_span b (all_loaded_words size true) (let many = many_signed in omega (arith, limits.narrow)) signed_extent ∙ rw (low, high) refl)

-- the least value that holds all numbers up to one
pub cover_to : (b : Limits) (greatest : ℕ) → AreLimits b → 128 ≤ greatest → Span 0 (threshold_above b.thresholds greatest - 1) 0 ≡ cover b (multiples_in_range 0 greatest 0)
cover_to b greatest limits many =
    let low : floor b.thresholds 0 ≡ 0 = omega (arith, floor_le b.thresholds 0) in
    let last : greatest / 2 ^ 0 * 2 ^ 0 ≡ greatest = omega arith in
    sym (cover_span b (multiples_in_range 0 greatest 0) (many_range b 0 greatest 0 (omega (arith, limits.narrow))) (extent_range 0 greatest 0 (omega arith) (omega arith))
    ∙ ap (λ n. Span (floor b.thresholds 0) (threshold_above b.thresholds n - 1) 0) last
    ∙ ap (λ n. Span n (threshold_above b.thresholds greatest - 1) 0) low)

-- numbers of a size
many_numbers : (size : ℕ) → IsAccessSize size → 128 ≤ 2 ^ (8 * size) - 1
many_numbers size (inl e) = rw e (omega arith)
many_numbers size (inr (inl e)) = rw e (omega arith)
many_numbers size (inr (inr e)) = rw e (omega arith)

pub numbers-cover : (b : Limits) (size : ℕ) → AreLimits b → IsAccessSize size → Span 0 (threshold_above b.thresholds (2 ^ (8 * size) - 1) - 1) 0 ≡ cover b (all_loaded_words size false)
numbers-cover b size limits is = cover_to b (2 ^ (8 * size) - 1) limits (many_numbers size is) ∙ anything-unsigned b size

words_below : (size : ℕ) → IsAccessSize size → 2 ^ (8 * size) - 1 < 2 ^ 32
words_below size (inl e) = rw e (omega arith)
words_below size (inr (inl e)) = rw e (omega arith)
words_below size (inr (inr e)) = rw e (omega arith)

pub numbers_value : (b : Limits) (size : ℕ) → AreLimits b → IsAccessSize size → IsInLattice b (Span 0 (threshold_above b.thresholds (2 ^ (8 * size) - 1) - 1) 0)
numbers_value b size limits is =
    subst (λ (v : Val). IsInLattice b v) (sym (cover_to b (2 ^ (8 * size) - 1) limits (many_numbers size is)))
    (range_value b 0 (2 ^ (8 * size) - 1) 0 limits (omega arith) (omega arith) (words_below size is))

-- without a sign, a word stays
pub anything-word : (b : Limits) → AreLimits b → any_val ≡ cover b (all_loaded_words 4 false)
anything-word b limits = sym (any_cover b limits) ∙ anything-unsigned b 4
