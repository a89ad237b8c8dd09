use Rattle.std.proofs.Common.{◌≡◌, ◌<◌, ◌++◌, ℕ, List, length}
use Rattle.std.specs.Prelude.{All}
use Rattle.value_domain.specs.State.{AreInLattice}
use Rattle.cfg_recover.specs.RulesHoldOrFail.{limits_of_cert, RuleHolds}
use Rattle.depth_cert.specs.declared.points.Point.{Point}
use Rattle.depth_check.specs.Interrupts.{LastInterruptsHold}
use Rattle.cfg_recover.specs.SetOperations.{IsCorrectCache}
use Rattle.depth_check.proofs.CallLaws.{HoldsNext}
use Rattle.depth_check.proofs.nodes.first_node_fault.Given as goal

abbrev pub invariant-loop-addr : goal.invariant-loop-addr
invariant-loop-addr l = record {
  done : List Point;
  split : (l.node).points ≡ done ++ (l.scratch.walk).left;
  points : (l.scratch.walk).points ≡ (l.node).points;
  all : All (λ (p : Point). (r : ℕ) → RuleHolds l.image l.plan l.cert l.node p r) done;
  known : 0 < l.next → AreInLattice (limits_of_cert l.plan l.cert) ((l.scratch.walk).current).regs;
  interrupts : LastInterruptsHold l.plan l.cert l.scratch.interrupts;
  results : IsCorrectCache l.b (l.scratch.point).cache;
  registers : HoldsNext l.plan l.cert l.node (l.scratch.walk).left (l.scratch.point).registers;
}

abbrev pub decreases-loop-addr : goal.decreases-loop-addr
decreases-loop-addr l = length (l.scratch.walk).left
