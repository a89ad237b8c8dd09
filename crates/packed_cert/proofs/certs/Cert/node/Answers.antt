use Rattle.std.proofs.Common.{◌≡◌, ◌∙◌, Some, List, ℕ, sym, ap, subst, map}
use Rattle.std.specs.List.{All}
use Rattle.std.specs.List.Sorted.{IsStrictlyIncreasing}
use Rattle.std.proofs.lemmas.List.{get_or_default}
use Rattle.depth_cert.specs.Nodes.{NodeData, find_node}
use Rattle.depth_cert.specs.Certs.{CertData}
use Rattle.packed_cert.specs.declared.places.NodePlaces.{NodePlaces}
use Rattle.packed_cert.specs.NodesInBytes.{node_in_bytes, nodes_in_bytes, AreNodePlaces}
use Rattle.packed_cert.proofs.NodeReads.{keys_in}
use Rattle.packed_cert.proofs.CertFinds.{Parts, node_found, node_missing, node_past}
use Rattle.packed_cert.proofs.certs.Cert.node.Goals as goal
use Rattle.packed_cert.proofs.certs.Cert.node.Goals.{else-at-nodes-via-then-at-nodes+else-nodes-at, else-at-nodes-via-else-at-nodes}

pub count_nodes_below-at-requires : goal.count_nodes_below-at-requires
count_nodes_below-at-requires c =
    subst IsStrictlyIncreasing
    (keys_in c.self.inside.version c.self.inside.bytes.items c.self.inside.nodes.items c.self.invariant.nodes ∙ ap (map (λ (n : NodePlaces). n.number)) (sym c.as_slice-nodes.ensures.value))
    c.self.invariant.limits.rising

pub returns-then-nodes-at : goal.returns-then-nodes-at
returns-then-nodes-at c =
    let version = c.self.inside.version in
    let bytes = c.self.inside.bytes.items in
    let ns = c.as_slice-nodes.result.now in
    let m = c.index-nodes-at-then-nodes-at.result in
    let all = subst (All (AreNodePlaces version bytes)) (sym c.as_slice-nodes.ensures.value) c.self.invariant.nodes in
    let parts = subst (λ (k : ℕ). Parts k ns c.count_nodes_below-at.result) c.key_number-number.ensures c.count_nodes_below-at.ensures in
    let e = ap (λ (d : NodePlaces). d.number) (get_or_default ns c.count_nodes_below-at.result m _ c.if-at-nodes.true) ∙ c.if-nodes-at.true ∙ c.key_number-number.ensures in
    let made : c.new.result ≡ node_in_bytes version bytes m = c.new.ensures ∙ ap (λ (l : List ℕ). node_in_bytes version l m) c.as_slice.ensures.value in
    ap (λ (d : NodeData). Some d) (made ∙ ap (node_in_bytes version bytes) c.index-nodes-at-then-nodes-at.is)
    ∙ sym (node_found version bytes c.args.key.now c.count_nodes_below-at.result m ns all c.if-at-nodes.true parts e)
    ∙ ap (λ (l : List NodePlaces). find_node c.args.key.now (nodes_in_bytes version bytes l)) c.as_slice-nodes.ensures.value
    ∙ ap (λ (d : CertData). find_node c.args.key.now d.nodes) c.self.view_is

pub returns : goal.returns
returns c =
    let version = c.self.inside.version in
    let bytes = c.self.inside.bytes.items in
    let key = c.args.key.now in
    let ns = c.as_slice-nodes.result.now in
    let all = subst (All (AreNodePlaces version bytes)) (sym c.as_slice-nodes.ensures.value) c.self.invariant.nodes in
    let parts = subst (λ (k : ℕ). Parts k ns c.count_nodes_below-at.result) c.key_number-number.ensures c.count_nodes_below-at.ensures in
    let rising =
    subst IsStrictlyIncreasing
    (keys_in version bytes c.self.inside.nodes.items c.self.invariant.nodes ∙ ap (map (λ (n : NodePlaces). n.number)) (sym c.as_slice-nodes.ensures.value))
    c.self.invariant.limits.rising
    in
    sym (ap (λ (d : CertData). find_node key d.nodes) (sym c.self.view_is)
    ∙ ap (λ (l : List NodePlaces). find_node key (nodes_in_bytes version bytes l)) (sym c.as_slice-nodes.ensures.value)
    ∙ elim c.else-at-nodes.branch [
      | else-at-nodes-via-then-at-nodes+else-nodes-at w ↦
          node_missing version bytes key c.count_nodes_below-at.result _ ns all rising parts (rw c.key_number-number.ensures at w.if-nodes-at.false)
      | else-at-nodes-via-else-at-nodes w ↦ node_past version bytes key c.count_nodes_below-at.result ns all parts w.if-at-nodes.false
    ])
