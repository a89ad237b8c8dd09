-- The limits of a format of certificates.
use Rattle.std.specs.Prelude.{ℕ, ◌==◌, if◌then◌else◌}
use Rattle.tcd_plan.specs.PlanData.{PlanData}
use Rattle.value_domain.specs.Limits.{Limits}
use Rattle.value_domain.specs.Thresholds.{thresholds_of}

-- the greatest number of words of a Set
abbrev pub most_words_of : ℕ → ℕ
most_words_of version = if version == 1 then 64 else 128

-- a format's limit: the greatest number of locals of a state
abbrev pub most_locals_of : ℕ → ℕ
most_locals_of version = if version == 1 then 4 else 8

-- the limits of a format of certificates under a plan: the plan's thresholds, with the format's
-- greatest numbers of words and locals
abbrev pub limits_for : PlanData → ℕ → Limits
limits_for p version = record { thresholds = thresholds_of p; most_words = most_words_of version; most_locals = most_locals_of version }
