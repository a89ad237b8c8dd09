use Rattle.std.proofs.Common.{◌-◌}
use Rattle.depth_maker.specs.TableLevels.{level_of_table}
use Rattle.depth_maker.specs.TableInvariant.{TableInvariantHoldsForInputs}
use Rattle.depth_maker.specs.Visits.{IsNoVisitOpen}
use Rattle.depth_maker.proofs.LevelSteps.{most_level}
use Rattle.depth_maker.proofs.fixpoint.least_fixpoint.Given as goal

abbrev pub invariant-loop-scratch : goal.invariant-loop-scratch
invariant-loop-scratch l = TableInvariantHoldsForInputs l.ground l.table × IsNoVisitOpen l.table

abbrev pub decreases-loop-scratch : goal.decreases-loop-scratch
decreases-loop-scratch l = most_level - level_of_table l.table
