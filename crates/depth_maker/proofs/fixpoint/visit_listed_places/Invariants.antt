use Rattle.std.proofs.Common.{◌≡◌, ◌<◌, ◌≤◌, ◌+◌, ◌⊎◌, length}
use Rattle.cfg_recover.specs.SetOperations.{IsCorrectCache}
use Rattle.frame_places.specs.Work.{all_work}
use Rattle.depth_maker.specs.TableLevels.{level_of_table}
use Rattle.depth_maker.specs.TableInvariant.{TableInvariantHoldsForInputs}
use Rattle.depth_maker.specs.Visits.{IsNoVisitOpen}
use Rattle.depth_maker.proofs.fixpoint.visit_listed_places.Given as goal

abbrev pub invariant-loop-done : goal.invariant-loop-done
invariant-loop-done l =
    TableInvariantHoldsForInputs l.ground l.table × IsNoVisitOpen l.table
    × ((level_of_table l.initial.table < level_of_table l.table) ⊎ ((level_of_table l.table ≡ level_of_table l.initial.table) × (length (all_work l.table.work) + l._done ≤ l._done-end)))
    × IsCorrectCache l.ground.bounds.now l.cache
