use Rattle.std.proofs.Common.{ℕ, ◌+◌, ◌-◌, ◌*◌, ◌≤◌, length}
use Rattle.std.specs.Prelude.{sum, slice_index}
use Rattle.frame_places.specs.RowNeeds.{AreLowerBounds}
use Rattle.frame_places.proofs.needs.least.raise_needs_until_met.Given as goal

abbrev pub invariant-loop : goal.invariant-loop
invariant-loop l = AreLowerBounds l.needs l.rows × ((k : ℕ) → slice_index l.needs k ≤ l.cap + 1)

abbrev pub decreases-loop : goal.decreases-loop
decreases-loop l = length l.needs * (l.cap + 1) - sum l.needs
