use Rattle.std.proofs.Common.{ltb, ℕ, rules}
use Rattle.std.proofs.lemmas.List.Sorted.{IsPartitionPoint-from_clause, IsPartitionedBy-ltb}
use Rattle.depth_cert.proofs.FindLaws.{non_decreasing}
use Rattle.packed_cert.specs.declared.places.PointPlace.{PointPlace}
use Rattle.packed_cert.proofs.NodeFinds.{parts_at}
use Rattle.packed_cert.proofs.nodes.count_points_below.Goals as goal

pub returns-then-points-near : goal.returns-then-points-near
returns-then-points-near c =
    let number : PointPlace → ℕ = λ p. p.addr in
    parts_at number c.args.points.now c.args.addr c.args.near _ c.requires c.if-near-points.true c.if-points-near.true

pub returns-then-points-after : goal.returns-then-points-after
returns-then-points-after c =
    let number : PointPlace → ℕ = λ p. p.addr in
    parts_at number c.args.points.now c.args.addr _ _ c.requires c.if-after-points.true c.if-points-after.true

pub returns-then-points-far : goal.returns-then-points-far
returns-then-points-far c =
    let number : PointPlace → ℕ = λ p. p.addr in
    parts_at number c.args.points.now c.args.addr _ _ c.requires c.if-far-points.true c.if-points-far.true

pub returns : goal.returns
returns c =
    let number : PointPlace → ℕ = λ p. p.addr in
    IsPartitionPoint-from_clause (λ p. ltb (number p) c.args.addr) c.args.points.now c.partition_point.result c.partition_point.ensures.partitioned
    (IsPartitionedBy-ltb number c.args.points.now c.args.addr (non_decreasing number c.args.points.now c.requires))
    (λ a r f' called. search rules)
