use Rattle.std.proofs.Common.{take}
use Rattle.depth_maker.specs.VisitDuties.{resume_duties, JoinsDuties}
use Rattle.depth_maker.proofs.calls.join_call_returns.Given as goal

abbrev pub invariant-loop-t : goal.invariant-loop-t
invariant-loop-t l = JoinsDuties l.v l.initial.table l.table (resume_duties l.v l.back (take l.t-index l.targets))
