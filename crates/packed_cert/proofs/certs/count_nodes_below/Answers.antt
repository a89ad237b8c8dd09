use Rattle.std.proofs.Common.{ltb, ℕ, rules}
use Rattle.std.proofs.lemmas.List.Sorted.{IsPartitionPoint-from_clause, IsPartitionedBy-ltb}
use Rattle.depth_cert.proofs.FindLaws.{non_decreasing}
use Rattle.packed_cert.specs.declared.places.NodePlaces.{NodePlaces}
use Rattle.packed_cert.proofs.certs.count_nodes_below.Goals as goal

pub returns : goal.returns
returns c =
    let number : NodePlaces → ℕ = λ n. n.number in
    IsPartitionPoint-from_clause (λ n. ltb (number n) c.args.number) c.args.nodes.now c.partition_point.result c.partition_point.ensures.partitioned
    (IsPartitionedBy-ltb number c.args.nodes.now c.args.number (non_decreasing number c.args.nodes.now c.requires))
    (λ a r f' called. search rules)
