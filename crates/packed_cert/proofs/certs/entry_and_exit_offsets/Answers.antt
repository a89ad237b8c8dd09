use Rattle.std.proofs.Common.{◌≡◌, ◌<◌, ◌∙◌, ℕ, List, Some, get_or, length, sym, ap, subst, arith, false}
use Rattle.std.proofs.lemmas.List.{get_or_default}
use Rattle.depth_cert.specs.Points.{find_point}
use Rattle.packed_cert.specs.declared.places.NodePlaces.{NodePlaces}
use Rattle.packed_cert.specs.declared.places.PointPlace.{PointPlace}
use Rattle.packed_cert.specs.PointsInBytes.{points_in_bytes, point_in_bytes}
use Rattle.packed_cert.specs.NodesInBytes.{node_in_bytes}
use Rattle.packed_cert.proofs.NodeFinds.{point_found}
use Rattle.packed_cert.proofs.CertFinds.{Parts, node_found, entered_at}
use Rattle.packed_cert.proofs.certs.entry_and_exit_offsets.Goals as goal

pub returns : goal.returns
returns c =
    let version = c.args.version in
    let bytes = c.args.bytes.now in
    let key = c.args.key.now in
    let ns = c.args.nodes.now in
    let at = c.count_nodes_below-at.result in
    let m = c.index-nodes-at-2.result in
    let within : at < length ns = omega (arith, c.if-at-nodes.false) in
    let parts = subst (λ (k : ℕ). Parts k ns at) c.key_number-number.ensures c.count_nodes_below-at.ensures in
    let e = ap (λ (d : NodePlaces). d.number) (get_or_default ns at m _ within) ∙ c.if-nodes-at.false ∙ c.key_number-number.ensures in
    let found = node_found version bytes key at m ns c.requires.places within parts e ∙ ap (λ (d : NodePlaces). Some (node_in_bytes version bytes d)) (sym c.index-nodes-at-2.is) in
    let ps = c.as_slice-points.result.now in
    let first = c.count_points_below-first.result in
    let none : PointPlace = record { addr = 0; place = 0; row = record { first = 0; behind = 0; from = 0 }; same = false } in
    let point = point_found version bytes key.entry first none ps (omega (arith, c.if-first-points.false)) c.count_points_below-first.ensures c.if-points-first.false in
    entered_at version bytes ns key m (get_or ps first none) found
    (subst (λ (l : List PointPlace). find_point key.entry (points_in_bytes version bytes l) ≡ Some (point_in_bytes version bytes (get_or ps first none))) c.as_slice-points.ensures.value point)
