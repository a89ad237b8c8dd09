use Rattle.std.proofs.Common.{sym, subst, ap, ◌∙◌}
use Rattle.std.specs.List.Sorted.{IsStrictlyIncreasing}
use Rattle.depth_cert.specs.Nodes.{NodeData}
use Rattle.depth_cert.specs.Points.{addresses}
use Rattle.packed_cert.proofs.PointPlaces.{addresses_in}
use Rattle.packed_cert.proofs.nodes.Node.start_walk.Goals as goal

pub returns-clause-rising : goal.returns-clause-rising
returns-clause-rising c =
    subst IsStrictlyIncreasing
    (sym (addresses_in c.self.inside.version c.self.inside.bytes.now c.self.inside.points.now) ∙ ap (λ (n : NodeData). addresses n.points) c.self.view_is)
    c.self.invariant.rising
