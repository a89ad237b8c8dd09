-- The thresholds of a plan, and those next to a word.
use Rattle.std.specs.Prelude.{◌^◌, ℕ, zero, suc, List, ◌∷◌, ◌++◌, ◌+◌, ◌<◌, []}
use Rattle.tcd_plan.specs.PlanData.{PlanData, all_ranges}
use Rattle.tcd_base.specs.declared.range.Range.{Range}
use Rattle.value_domain.specs.Floors.{floor, threshold_above, IsFloor, IsThresholdAbove}
use Rattle.std.specs.List.Sorted.{IsNonDecreasing}
use Rattle.value_domain.specs.Sets.{AreAmong}

-- the first n powers of two, from 1 on
unfoldable pub powers_of_two : ℕ → List ℕ
powers_of_two zero = []
powers_of_two (suc n) = powers_of_two n ++ 2 ^ n ∷ []

-- thresholds that ranges give: the first address of each range, and the one after its last
abbrev pub range_ends : List Range → List ℕ
range_ends [] = []
range_ends (r ∷ rs) = r.at ∷ (r.at + r.len) ∷ range_ends rs

-- 0, the powers of two from 1 to 2^32, and the two ends of each range of the plan
abbrev pub thresholds_of : PlanData → List ℕ
thresholds_of p = (0 ∷ powers_of_two 33) ++ range_ends (all_ranges p)

-- the thresholds of a plan next to a word
pub record HasNearestThresholds (ts : List ℕ) (x : ℕ) : Type 0 where
  pub floor : IsFloor ts x (floor ts x)
  pub above : IsThresholdAbove ts x (threshold_above ts x)

-- each word has two thresholds of a plan next to it: the greatest that is at most the word, and the
-- least above it
abbrev pub ThresholdsAreNearest : Type 0
ThresholdsAreNearest = (plan : PlanData) (x : ℕ) → x < 2 ^ 32 → HasNearestThresholds (thresholds_of plan) x

-- the first list has the thresholds of the second in ascending order
pub record AreSortedThresholds (ascending xs : List ℕ) : Type 0 where
  pub ordered : IsNonDecreasing ascending
  pub within : AreAmong ascending xs
  pub back : AreAmong xs ascending
