-- Limits of values and states: the thresholds, and the greatest numbers of words and locals.
use Rattle.std.specs.Prelude.{◌≤◌, ℕ, List}
use Rattle.value_domain.specs.declared.limits.Bounds.TheInside.{Inside}

-- the thresholds in any order, the greatest number of words of a Set, and of locals of a state
pub record Limits : Type 0 where
  pub thresholds : List ℕ
  pub most_words : ℕ
  pub most_locals : ℕ

-- the limits that the code holds, as plain data
abbrev pub limits_of : Inside → Limits
limits_of b = record { thresholds = b.thresholds.items; most_words = b.most_words; most_locals = b.most_locals }

-- the bounds of all limits: a Set can have from 64 to 128 words at most, and a state at most 8
-- saved lower contexts
pub record AreLimits (b : Limits) : Type 0 where
  pub wide : 64 ≤ b.most_words
  pub narrow : b.most_words ≤ 128
  pub few_locals : b.most_locals ≤ 8
