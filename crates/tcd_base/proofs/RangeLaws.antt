-- Laws of ranges: inside one range, and inside one of several.
use Rattle.std.proofs.Common.{◌≡◌, ℕ, ◌+◌, ◌<◌, inl, inr, true, List, [], ◌∷◌, ◌++◌, arith}
use Rattle.std.proofs.lemmas.Bool.{and_parts, and_from, leb-true, le-leb}
use Rattle.tcd_base.specs.declared.range.Range.{Range}
use Rattle.tcd_base.specs.Ranges.{IsWithinRange, IsInOneRange, is_within_range}

-- ---- the test of a range
pub within_true : (x n : ℕ) (r : Range) → is_within_range x n r ≡ true → IsWithinRange x n r
within_true x n r t =
    let both = and_parts _ _ t in
    (leb-true r.at x both.0, leb-true (x + n) (r.at + r.len) both.1)

pub true_within : (x n : ℕ) (r : Range) → IsWithinRange x n r → is_within_range x n r ≡ true
true_within x n r w = and_from _ _ (le-leb r.at x w.0) (le-leb (x + n) (r.at + r.len) w.1)

-- ---- one of several
-- one of n addresses that are inside a range
pub in_one : (x n i : ℕ) (rs : List Range) → i < n → IsInOneRange x n rs → IsInOneRange (x + i) 1 rs
in_one x n i [] lt h = h
in_one x n i (r ∷ rs) lt (inl h) = inl (omega arith, omega arith)
in_one x n i (r ∷ rs) lt (inr h) = inr (in_one x n i rs lt h)

pub IsInOne-front : (x n : ℕ) (rs ss : List Range) → IsInOneRange x n rs → IsInOneRange x n (rs ++ ss)
IsInOne-front x n [] ss h = absurd h
IsInOne-front x n (r ∷ rs) ss (inl h) = inl h
IsInOne-front x n (r ∷ rs) ss (inr h) = inr (IsInOne-front x n rs ss h)

pub IsInOne-behind : (x n : ℕ) (rs ss : List Range) → IsInOneRange x n ss → IsInOneRange x n (rs ++ ss)
IsInOne-behind x n [] ss h = h
IsInOne-behind x n (r ∷ rs) ss h = inr (IsInOne-behind x n rs ss h)
