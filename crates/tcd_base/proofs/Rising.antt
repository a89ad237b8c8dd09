-- Counts of failures.
use Rattle.std.proofs.Common.{◌-◌, ◌^◌, ◌<◌, ◌≤◌, ℕ, ◌⊎◌, inl, inr, arith}
use Rattle.std.proofs.lemmas.Bool.{cases_lt}
use Rattle.tcd_base.specs.FailingCalls.{IsFaultCounted, next_saturating_count}

-- one more, up to the last value, counts a failure
pub counted_one_more : (a : ℕ) → IsFaultCounted a (next_saturating_count a)
counted_one_more a = by (cases_lt a (2 ^ 64 - 1))
  where
    by : (a < 2 ^ 64 - 1) ⊎ (2 ^ 64 - 1 ≤ a) → IsFaultCounted a (next_saturating_count a)
    by (inl l) = inl (omega arith)
    by (inr g) = inr (omega arith)
