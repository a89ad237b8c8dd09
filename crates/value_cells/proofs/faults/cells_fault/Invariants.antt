use Rattle.std.proofs.Common.{take}
use Rattle.std.specs.Prelude.{All}
use Rattle.depth_cert.specs.Nodes.{NodeData}
use Rattle.cfg_recover.specs.RulesHoldOrFail.{limits_of_cert}
use Rattle.value_cells.specs.Keeping.{PointKeepsCellBounds}
use Rattle.value_cells.proofs.faults.cells_fault.Given as goal

-- each point of the nodes so far keeps the cells
abbrev pub invariant-loop-i : goal.invariant-loop-i
invariant-loop-i l = All (λ (n : NodeData). All (PointKeepsCellBounds (limits_of_cert l.rule.plan.now l.cert) l.image l.rule.plan.now l.cells) n.points) (take l.i (l.cert).nodes)
