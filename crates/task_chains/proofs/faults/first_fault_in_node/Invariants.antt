use Rattle.std.proofs.Common.{◌≡◌, ◌++◌, List, length}
use Rattle.std.specs.Prelude.{All}
use Rattle.depth_cert.specs.declared.points.Point.{Point}
use Rattle.task_chains.specs.Rule17.{KeepsRule17AtPoint}
use Rattle.task_chains.proofs.faults.first_fault_in_node.Given as goal

-- the rule holds at each point so far
abbrev pub invariant-loop-addr : goal.invariant-loop-addr
invariant-loop-addr l = record {
  done : List Point;
  split : (l.node).points ≡ done ++ (l.walk).left;
  hold : All (KeepsRule17AtPoint l.rule.bounds.now l.rule.view.now l.rule.plan.now l.rule.tasks.now (l.node).key) done;
}

abbrev pub decreases-loop-addr : goal.decreases-loop-addr
decreases-loop-addr l = length (l.walk).left
