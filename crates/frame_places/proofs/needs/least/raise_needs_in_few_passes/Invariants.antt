use Rattle.std.proofs.Common.{ℕ, ◌+◌, ◌≤◌}
use Rattle.std.specs.Prelude.{slice_index}
use Rattle.frame_places.specs.RowNeeds.{AreLowerBounds}
use Rattle.frame_places.proofs.needs.least.raise_needs_in_few_passes.Given as goal

abbrev pub invariant-loop-done : goal.invariant-loop-done
invariant-loop-done l = AreLowerBounds l.needs l.rows × ((k : ℕ) → slice_index l.needs k ≤ l.cap + 1)
