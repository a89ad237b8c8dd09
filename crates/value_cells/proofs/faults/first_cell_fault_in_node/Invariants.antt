use Rattle.std.proofs.Common.{◌≡◌, ◌++◌, List, length}
use Rattle.std.specs.Prelude.{All}
use Rattle.depth_cert.specs.declared.points.Point.{Point}
use Rattle.value_cells.specs.Keeping.{PointKeepsCellBounds}
use Rattle.value_cells.proofs.faults.first_cell_fault_in_node.Given as goal

-- each point so far keeps the cells
abbrev pub invariant-loop-addr : goal.invariant-loop-addr
invariant-loop-addr l = record {
  done : List Point;
  split : (l.node).points ≡ done ++ (l.walk).left;
  keep : All (PointKeepsCellBounds l.rule.bounds.now l.rule.image.now l.rule.plan.now l.rule.cells.now) done;
}

abbrev pub decreases-loop-addr : goal.decreases-loop-addr
decreases-loop-addr l = length (l.walk).left
