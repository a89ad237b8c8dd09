-- The least rule that fails.
use Rattle.std.specs.Prelude.{◌<◌, ◌≤◌, ℕ, Bool, if◌then◌else◌, min, Option, Some, None, List}
use Rattle.cfg_recover.specs.Duties.{Owed}
use Rattle.depth_check.specs.PointCheckData.{PointCheckData}
use Rattle.depth_check.specs.DutiesHold.{DutiesHold}

-- r is the least of the rules, up to K14, that fails
pub record IsLeastBrokenRule (holds : ℕ → Type 0) (r : ℕ) : Type 0 where
  pub broken : holds r → ⊥
  pub least : (q : ℕ) → q < r → holds q
  pub known : r ≤ 14

-- the answer is the least rule that fails, or none if all rules hold
abbrev pub FindsLeastBroken : (ℕ → Type 0) → Option ℕ → Type 0
FindsLeastBroken holds None = (q : ℕ) → holds q
FindsLeastBroken holds (Some r) = IsLeastBrokenRule holds r

-- the lesser of two rules that fail at a checked point; none if neither fails
abbrev pub lesser_broken_rule : Option ℕ → Option ℕ → Option ℕ
lesser_broken_rule None o = o
lesser_broken_rule (Some a) None = Some a
lesser_broken_rule (Some a) (Some b) = Some (min a b)

-- this rule, as the least that a checked point breaks, or none if its condition holds
abbrev pub broken_rule_unless : Bool → ℕ → Option ℕ
broken_rule_unless holds rule = if holds then None else Some rule

-- the answer is the least rule that fails for these duties of the checked point, or none if all
-- hold
abbrev pub FindsLeastBrokenByDuties : PointCheckData → List Owed → Option ℕ → Type 0
FindsLeastBrokenByDuties at duties found = FindsLeastBroken (DutiesHold at.cert at.node at.point.state duties) found
