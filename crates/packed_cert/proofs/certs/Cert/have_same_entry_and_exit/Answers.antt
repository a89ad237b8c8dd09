use Rattle.std.proofs.Common.{◌∙◌, List, ℕ, map, sym, ap, subst}
use Rattle.std.specs.List.Sorted.{IsStrictlyIncreasing}
use Rattle.depth_cert.specs.Nodes.{NodeData}
use Rattle.depth_cert.specs.Certs.{CertData}
use Rattle.packed_cert.specs.declared.places.NodePlaces.{NodePlaces}
use Rattle.packed_cert.specs.NodesInBytes.{nodes_in_bytes}
use Rattle.packed_cert.specs.EnteredAlike.{HaveSameEntryAndExit}
use Rattle.packed_cert.proofs.NodeReads.{keys_in}
use Rattle.packed_cert.proofs.CertFinds.{entered_alike, same_place}
use Rattle.packed_cert.proofs.certs.Cert.have_same_entry_and_exit.Goals as goal

pub entry_and_exit_offsets-requires-clause-rising : goal.entry_and_exit_offsets-requires-clause-rising
entry_and_exit_offsets-requires-clause-rising c =
    subst IsStrictlyIncreasing
    (keys_in c.self.inside.version c.self.inside.bytes.items c.self.inside.nodes.items c.self.invariant.nodes ∙ ap (map (λ (n : NodePlaces). n.number)) (sym c.as_slice-nodes.ensures.value))
    c.self.invariant.limits.rising

pub entry_and_exit_offsets-requires-2-clause-rising : goal.entry_and_exit_offsets-requires-2-clause-rising
entry_and_exit_offsets-requires-2-clause-rising c =
    subst IsStrictlyIncreasing
    (keys_in c.self.inside.version c.self.inside.bytes.items c.self.inside.nodes.items c.self.invariant.nodes ∙ ap (map (λ (n : NodePlaces). n.number)) (sym c.as_slice-nodes.ensures.value))
    c.self.invariant.limits.rising

pub returns-then-one-two : goal.returns-then-one-two
returns-then-one-two c same =
    let version = c.self.inside.version in
    let bytes = c.as_slice-bytes.result.now in
    let ns = c.as_slice-nodes.result.now in
    subst (λ (l : List NodeData). HaveSameEntryAndExit l c.args.a.now c.args.b.now)
    (ap (λ (l : List ℕ). nodes_in_bytes version l ns) c.as_slice-bytes.ensures.value ∙ ap (nodes_in_bytes version c.self.inside.bytes.items) c.as_slice-nodes.ensures.value ∙ ap (λ (d : CertData). d.nodes) c.self.view_is)
    (entered_alike version bytes ns c.args.a.now c.args.b.now c.in-Some.one.0 c.in-Some-entry_and_exit_offsets.two.0 c.in-Some.one.1 c.in-Some-entry_and_exit_offsets.two.1 c.in-Some.ensures c.in-Some-entry_and_exit_offsets.ensures c.if-one-two.true
    (same_place c.in-Some.one.1 c.in-Some-entry_and_exit_offsets.two.1 c.eq.result c.eq.ensures same))
