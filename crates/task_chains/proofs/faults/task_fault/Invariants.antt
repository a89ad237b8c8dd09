use Rattle.std.proofs.Common.{take}
use Rattle.std.specs.Prelude.{All}
use Rattle.depth_cert.specs.Nodes.{NodeData}
use Rattle.task_chains.specs.Rule17.{KeepsRule17AtCertPoint}
use Rattle.task_chains.proofs.faults.task_fault.Given as goal

-- the rule holds at each point of the nodes so far
abbrev pub invariant-loop-i : goal.invariant-loop-i
invariant-loop-i l = All (λ (n : NodeData). All (KeepsRule17AtCertPoint l.view l.plan l.tasks l.cert n) n.points) (take l.i (l.cert).nodes)
