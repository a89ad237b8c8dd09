-- Laws of ranges without a block of bytes.
use Rattle.std.proofs.Common.{◌≡◌, ℕ, ◌+◌, ◌-◌, ◌%◌, ◌^◌, ◌<◌, ◌≤◌, ◌⊎◌, inl, inr, Bool, true, false, cond, List, [], ◌∷◌, ◌++◌, length, min, max, refl, sym, subst, ap, ◌∙◌, arith, nat_lt}
use Rattle.std.proofs.lemmas.Bool.{and_parts, and_from, lt-ltb, le-ltb, ltb-true, ltb-false}
use Rattle.std.proofs.lemmas.List.{length-append}
use Rattle.std.proofs.lemmas.List.Folds.{list_all-append}
use Rattle.std.proofs.lemmas.List.Sums.{sum_by-append}
use Rattle.std.specs.List.{list_all}
use Rattle.std.specs.Prelude.{sum_by}
use Rattle.tcd_base.specs.declared.range.Range.{Range}
use Rattle.tcd_base.specs.Ranges.{IsWithinRange, IsInOneRange}
use Rattle.tcd_plan.specs.Cutting.{range_between, range_outside, ranges_outside}
use Rattle.tcd_base.proofs.RangeLaws.{IsInOne-front, IsInOne-behind}
use Rattle.tcd_plan.specs.PlanData.{is_plan_range, are_ranges_disjoint, are_all_ranges_disjoint}
use Rattle.tcd_plan.proofs.ApartLaws.{range_parts, is_range-from, HaveBytes-ranges, all_apart-before, all_apart-append}

-- what is inside one of two lists of ranges
pub IsInOne-parts : (x n : ℕ) (rs ss : List Range) → IsInOneRange x n (rs ++ ss) → IsInOneRange x n rs ⊎ IsInOneRange x n ss
IsInOne-parts x n [] ss h = inr h
IsInOne-parts x n (r ∷ rs) ss (inl h) = inl (inl h)
IsInOne-parts x n (r ∷ rs) ss (inr h) = elim (IsInOne-parts x n rs ss h) [ inl a ↦ inl (inr a) | inr b ↦ inr b ]

-- ---- the range from one address up to another
in_between : (from upto x n : ℕ) → IsInOneRange x n (range_between from upto) → (from ≤ x) × (x + n ≤ upto)
in_between from upto x n h = by_test (nat_lt from upto) refl h
  where
    by_test : (t : Bool) → nat_lt from upto ≡ t → IsInOneRange x n (cond t (record { at = from; len = upto - from } ∷ []) []) → (from ≤ x) × (x + n ≤ upto)
    by_test true lt (inl w) = let less = ltb-true from upto lt in let high = w.1 in (w.0, omega arith)
    by_test true lt (inr none) = absurd none
    by_test false lt none = absurd none

between_has : (from upto x n : ℕ) → from ≤ x → x + n ≤ upto → from < upto → IsInOneRange x n (range_between from upto)
between_has from upto x n low high some =
    subst (λ t. IsInOneRange x n (cond t (record { at = from; len = upto - from } ∷ []) [])) (sym (lt-ltb from upto some)) (inl (low, omega arith))

pub one_between : (from upto : ℕ) → length (range_between from upto) ≤ 1
one_between from upto = by_test (nat_lt from upto)
  where
    by_test : (t : Bool) → length {A = Range} (cond t (record { at = from; len = upto - from } ∷ []) []) ≤ 1
    by_test true = omega arith
    by_test false = omega arith

pub none_between : (from upto : ℕ) → upto ≤ from → length (range_between from upto) ≡ 0
none_between from upto le = ap (λ t. length {A = Range} (cond t (record { at = from; len = upto - from } ∷ []) [])) (le-ltb from upto le)

between_range : (from upto : ℕ) → from % 4 ≡ 0 → upto % 4 ≡ 0 → upto ≤ 2 ^ 32 → list_all is_plan_range (range_between from upto) ≡ true
between_range from upto a b fits = by_test (nat_lt from upto) refl
  where
    by_test : (t : Bool) → nat_lt from upto ≡ t → list_all is_plan_range (cond t (record { at = from; len = upto - from } ∷ []) []) ≡ true
    by_test true lt = let less = ltb-true from upto lt in and_from _ true (is_range-from (record { at = from; len = upto - from }) a (omega arith) (omega arith) (omega arith)) refl
    by_test false lt = refl

between_apart : (from upto : ℕ) → are_all_ranges_disjoint (range_between from upto) ≡ true
between_apart from upto = by_test (nat_lt from upto)
  where
    by_test : (t : Bool) → are_all_ranges_disjoint (cond t (record { at = from; len = upto - from } ∷ []) []) ≡ true
    by_test true = refl
    by_test false = refl

-- the number of bytes in ranges
abbrev size : List Range → ℕ
size rs = sum_by (λ (r : Range). r.len) rs

between_size : (from upto : ℕ) → size (range_between from upto) ≡ upto - from
between_size from upto = by_test (nat_lt from upto) refl
  where
    by_test : (t : Bool) → nat_lt from upto ≡ t → size (cond t (record { at = from; len = upto - from } ∷ []) []) ≡ upto - from
    by_test true lt = omega arith
    by_test false lt = let le = ltb-false from upto lt in omega arith

min_four : (a b : ℕ) → a % 4 ≡ 0 → b % 4 ≡ 0 → min a b % 4 ≡ 0
min_four a b h g = omega arith

max_four : (a b : ℕ) → a % 4 ≡ 0 → b % 4 ≡ 0 → max a b % 4 ≡ 0
max_four a b h g = omega arith

min_left : (a b x : ℕ) → x ≤ min a b → x ≤ a
min_left a b x h = omega arith

min_right : (a b x : ℕ) → x ≤ min a b → x ≤ b
min_right a b x h = omega arith

max_left : (a b x : ℕ) → max a b ≤ x → a ≤ x
max_left a b x h = omega arith

max_right : (a b x : ℕ) → max a b ≤ x → b ≤ x
max_right a b x h = omega arith

-- ---- ranges without the n bytes from x on
module _ (x n : ℕ) where
  abbrev below : Range → List Range
  below r = range_between r.at (min x (r.at + r.len))

  abbrev above : Range → List Range
  above r = range_between (max (x + n) r.at) (r.at + r.len)

  -- what is in a part of a range is in the range, and misses the block
  pub in_part : (r : Range) (y k : ℕ) → IsInOneRange y k (range_outside x n r) → IsWithinRange y k r × ((y + k ≤ x) ⊎ (x + n ≤ y))
  in_part r y k h =
      elim (IsInOne-parts y k (below r) (above r) h) [
        | inl first ↦
            let p = in_between r.at (min x (r.at + r.len)) y k first in
            ((p.0, min_right x (r.at + r.len) (y + k) p.1), inl (min_left x (r.at + r.len) (y + k) p.1))
        | inr second ↦
            let p = in_between (max (x + n) r.at) (r.at + r.len) y k second in
            ((max_right (x + n) r.at y p.0, p.1), inr (max_left (x + n) r.at y p.0))
      ]

  pub in_ranges_without : (rs : List Range) (y k : ℕ) → IsInOneRange y k (ranges_outside x n rs) → IsInOneRange y k rs × ((y + k ≤ x) ⊎ (x + n ≤ y))
  in_ranges_without [] y k h = absurd h
  in_ranges_without (r ∷ rs) y k h =
      elim (IsInOne-parts y k (range_outside x n r) (ranges_outside x n rs) h) [
        | inl here ↦ let p = in_part r y k here in (inl p.0, p.1)
        | inr rest ↦ let p = in_ranges_without rs y k rest in (inr p.0, p.1)
      ]

  -- a byte of a range that isn't in the block is in a part
  part_has : (r : Range) (y : ℕ) → IsWithinRange y 1 r → (y < x) ⊎ (x + n ≤ y) → IsInOneRange y 1 (range_outside x n r)
  part_has r y h (inl low) =
      let a = h.0 in
      let b = h.1 in
      IsInOne-front y 1 (below r) (above r) (between_has r.at (min x (r.at + r.len)) y 1 a (omega arith) (omega arith))
  part_has r y h (inr high) =
      let a = h.0 in
      let b = h.1 in
      IsInOne-behind y 1 (below r) (above r) (between_has (max (x + n) r.at) (r.at + r.len) y 1 (omega arith) b (omega arith))

  pub ranges_without_has : (rs : List Range) (y : ℕ) → IsInOneRange y 1 rs → (y < x) ⊎ (x + n ≤ y) → IsInOneRange y 1 (ranges_outside x n rs)
  ranges_without_has [] y h out = absurd h
  ranges_without_has (r ∷ rs) y (inl h) out = IsInOne-front y 1 (range_outside x n r) (ranges_outside x n rs) (part_has r y h out)
  ranges_without_has (r ∷ rs) y (inr h) out = IsInOne-behind y 1 (range_outside x n r) (ranges_outside x n rs) (ranges_without_has rs y h out)

  -- ---- the number of parts
  pub two_left : (r : Range) → length (range_outside x n r) ≤ 2
  two_left r =
      let a = one_between r.at (min x (r.at + r.len)) in
      let b = one_between (max (x + n) r.at) (r.at + r.len) in
      omega (arith, length-append (below r) (above r))

  -- a range below the block or above it stays in one part
  pub one_left : (r : Range) → (r.at + r.len ≤ x) ⊎ (x + n ≤ r.at) → length (range_outside x n r) ≤ 1
  one_left r (inl under) =
      let a = one_between r.at (min x (r.at + r.len)) in
      let b = none_between (max (x + n) r.at) (r.at + r.len) (omega arith) in
      omega (arith, length-append (below r) (above r))
  one_left r (inr over) =
      let a = none_between r.at (min x (r.at + r.len)) (omega arith) in
      let b = one_between (max (x + n) r.at) (r.at + r.len) in
      omega (arith, length-append (below r) (above r))

  -- ---- the number of bytes
  part_size : (r : Range) → size (range_outside x n r) ≤ r.len
  part_size r =
      let a = between_size r.at (min x (r.at + r.len)) in
      let b = between_size (max (x + n) r.at) (r.at + r.len) in
      let both : size (range_outside x n r) ≡ size (below r) + size (above r) = sum_by-append (λ (s : Range). s.len) (below r) (above r) in
      omega arith

  pub ranges_without_size : (rs : List Range) → sum_by (λ (r : Range). r.len) (ranges_outside x n rs) ≤ sum_by (λ (r : Range). r.len) rs
  ranges_without_size [] = omega arith
  ranges_without_size (r ∷ rs) =
      let a = part_size r in
      let b = ranges_without_size rs in
      let parts : size (ranges_outside x n (r ∷ rs)) ≡ size (range_outside x n r) + size (ranges_outside x n rs) = sum_by-append (λ (s : Range). s.len) (range_outside x n r) (ranges_outside x n rs) in
      let one : size (r ∷ []) ≡ r.len = omega arith in
      let whole : size (r ∷ rs) ≡ size (r ∷ []) + size rs = sum_by-append (λ (s : Range). s.len) (r ∷ []) rs in
      omega arith

-- ---- parts of ranges of whole words, without a block of whole words
module _ (x n : ℕ) (first : x % 4 ≡ 0) (whole : n % 4 ≡ 0) where
  parts_range : (r : Range) → is_plan_range r ≡ true → list_all is_plan_range (range_outside x n r) ≡ true
  parts_range r is =
      let p = range_parts r is in
      let a = p.0 in
      let l = p.1 in
      let fits = p.3 in
      let upto : (r.at + r.len) % 4 ≡ 0 = omega arith in
      let last : (x + n) % 4 ≡ 0 = omega arith in
      list_all-append is_plan_range (below x n r) (above x n r)
      ∙ and_from _ _ (between_range r.at (min x (r.at + r.len)) a (min_four x (r.at + r.len) first upto) (omega arith)) (between_range (max (x + n) r.at) (r.at + r.len) (max_four (x + n) r.at last a) upto fits)

  -- the parts are ranges
  pub ranges_without_ranges : (rs : List Range) → list_all is_plan_range rs ≡ true → list_all is_plan_range (ranges_outside x n rs) ≡ true
  ranges_without_ranges [] h = refl
  ranges_without_ranges (r ∷ rs) h =
      let p = and_parts (is_plan_range r) (list_all is_plan_range rs) h in
      list_all-append is_plan_range (range_outside x n r) (ranges_outside x n rs) ∙ and_from _ _ (parts_range r p.0) (ranges_without_ranges rs p.1)

  parts_apart : (r : Range) → is_plan_range r ≡ true → are_all_ranges_disjoint (range_outside x n r) ≡ true
  parts_apart r is =
      let split = and_parts _ _ (sym (list_all-append is_plan_range (below x n r) (above x n r)) ∙ parts_range r is) in
      all_apart-append (below x n r) (above x n r) (HaveBytes-ranges _ split.0) (HaveBytes-ranges _ split.1) (between_apart _ _) (between_apart _ _)
      (λ y low high.
      let p = in_between r.at (min x (r.at + r.len)) y 1 low in
      let q = in_between (max (x + n) r.at) (r.at + r.len) y 1 high in
      let under = min_left x (r.at + r.len) (y + 1) p.1 in
      let over = max_left (x + n) r.at y q.0 in
      absurd (omega arith))

  -- the parts are apart from each other
  pub ranges_without_apart : (rs : List Range) → list_all is_plan_range rs ≡ true → are_all_ranges_disjoint rs ≡ true → are_all_ranges_disjoint (ranges_outside x n rs) ≡ true
  ranges_without_apart [] h a = refl
  ranges_without_apart (r ∷ rs) h a =
      let p = and_parts (is_plan_range r) (list_all is_plan_range rs) h in
      let q = and_parts (list_all (are_ranges_disjoint r) rs) (are_all_ranges_disjoint rs) a in
      all_apart-append (range_outside x n r) (ranges_outside x n rs) (HaveBytes-ranges _ (parts_range r p.0)) (HaveBytes-ranges _ (ranges_without_ranges rs p.1)) (parts_apart r p.0) (ranges_without_apart rs p.1 q.1)
      (λ y here there. all_apart-before y (r ∷ []) rs a (inl (in_part x n r y 1 here).0) (in_ranges_without x n rs y 1 there).0)
