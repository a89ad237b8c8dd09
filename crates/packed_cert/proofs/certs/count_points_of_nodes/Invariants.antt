use Rattle.std.proofs.Common.{◌≡◌, length, take, sum_by}
use Rattle.packed_cert.specs.declared.places.NodePlaces.{NodePlaces}
use Rattle.packed_cert.proofs.certs.count_points_of_nodes.Given as goal

abbrev pub invariant-loop-node : goal.invariant-loop-node
invariant-loop-node l = l.total ≡ sum_by (λ (n : NodePlaces). length n.points.items) (take l.node-index l.nodes)
