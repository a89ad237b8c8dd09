use Rattle.std.proofs.Common.{◌≤◌, ◌^◌, ◌∙◌, ℕ, List, length, sum_by, sym, ap, subst}
use Rattle.depth_cert.specs.Certs.{CertData}
use Rattle.depth_cert.specs.Nodes.{count_points}
use Rattle.packed_cert.specs.declared.places.NodePlaces.{NodePlaces}
use Rattle.packed_cert.proofs.NodeReads.{count_in}
use Rattle.packed_cert.proofs.certs.Cert.count_points.Goals as goal

pub count_points_of_nodes-requires : goal.count_points_of_nodes-requires
count_points_of_nodes-requires c =
    subst (λ (k : ℕ). k ≤ 2 ^ 16)
    (count_in c.self.inside.version c.self.inside.bytes.items c.self.inside.nodes.items ∙ ap (λ (l : List NodePlaces). sum_by (λ (n : NodePlaces). length n.points.items) l) (sym c.deref.ensures.value))
    c.self.invariant.limits.points

pub returns : goal.returns
returns c =
    c.count_points_of_nodes.ensures ∙ ap (λ (l : List NodePlaces). sum_by (λ (n : NodePlaces). length n.points.items) l) c.deref.ensures.value
    ∙ sym (count_in c.self.inside.version c.self.inside.bytes.items c.self.inside.nodes.items)
    ∙ ap (λ (d : CertData). count_points d.nodes) c.self.view_is
