use Rattle.std.proofs.Common.{take}
use Rattle.cfg_recover.specs.Duties.{jump_duties_to}
use Rattle.depth_maker.specs.VisitDuties.{JoinsDuties}
use Rattle.depth_maker.proofs.join_successors.join_each_jump_target.Given as goal

abbrev pub invariant-loop-t : goal.invariant-loop-t
invariant-loop-t l = JoinsDuties l.v l.initial.table l.table (jump_duties_to l.v.state.now (take l.t-index l.targets))
