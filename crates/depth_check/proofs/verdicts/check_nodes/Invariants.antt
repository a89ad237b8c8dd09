use Rattle.std.proofs.Common.{take}
use Rattle.std.specs.Prelude.{All}
use Rattle.cfg_recover.specs.RulesHoldOrFail.{RulesHoldAtNode}
use Rattle.depth_check.specs.Interrupts.{LastInterruptsHold}
use Rattle.cfg_recover.specs.SetOperations.{IsCorrectCache}
use Rattle.depth_check.proofs.verdicts.check_nodes.Given as goal

abbrev pub invariant-loop-i : goal.invariant-loop-i
invariant-loop-i l = record {
  before : All (RulesHoldAtNode l.image l.plan l.cert) (take l.i (l.cert).nodes);
  interrupts : LastInterruptsHold l.plan l.cert l.scratch.interrupts;
  results : IsCorrectCache l.b (l.scratch.point).cache;
}
