-- Counts of calls and of failures, and the calls that fail by their number.
use Rattle.std.specs.Prelude.{◌+◌, ◌-◌, ◌^◌, ℕ, min, List, Bool, ◌==◌, ◌≡◌, ◌<◌, ◌⊎◌}
use Rattle.std.specs.List.{list_any}

-- the next count of calls or of failures: one more, up to the last value of 64 bits
abbrev pub next_saturating_count : ℕ → ℕ
next_saturating_count n = min (n + 1) (2 ^ 64 - 1)

-- the call of this number is one of those that fail
abbrev pub is_failing_call : List ℕ → ℕ → Bool
is_failing_call failing call = list_any (λ n. n == call) failing

-- two counts of failures show that a call failed between them: the later count is greater, or it is
-- the last value of 64 bits
abbrev pub IsFaultCounted : ℕ → ℕ → Type 0
IsFaultCounted before now = (before < now) ⊎ (now ≡ 2 ^ 64 - 1)
