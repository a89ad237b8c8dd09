use Rattle.std.proofs.Common.{take}
use Rattle.depth_maker.specs.VisitDuties.{enter_duties, JoinsDuties}
use Rattle.depth_maker.proofs.join_entries.join_call_entries.Given as goal

abbrev pub invariant-loop-t : goal.invariant-loop-t
invariant-loop-t l = JoinsDuties l.v l.initial.table l.table (enter_duties l.v (take l.t-index l.targets))
