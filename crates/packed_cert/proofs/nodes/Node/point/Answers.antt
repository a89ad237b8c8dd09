use Rattle.std.proofs.Common.{◌∙◌, Some, sym, ap}
use Rattle.std.specs.Option.{option_map}
use Rattle.value_domain.specs.declared.states.State.{State}
use Rattle.depth_cert.specs.declared.points.Point.{Point}
use Rattle.depth_cert.specs.Nodes.{NodeData}
use Rattle.packed_cert.proofs.NodeFinds.{state_of, point_found, point_missing, point_past}
use Rattle.packed_cert.proofs.nodes.Node.point.Goals as goal
use Rattle.packed_cert.proofs.nodes.Node.point.Goals.{else-at-points-via-then-at-points+else-points-at, else-at-points-via-else-at-points}

pub new-requires : goal.new-requires
new-requires c = c.self.invariant.states c.count_points_below-at.result _ c.if-at-points.true

pub returns-then-points-at : goal.returns-then-points-at
returns-then-points-at c =
    ap (λ (s : State). Some s) c.new.ensures
    ∙ sym (ap (λ (n : NodeData). state_of c.args.addr n.points) (sym c.self.view_is)
    ∙ ap (option_map (λ (p : Point). p.state)) (point_found c.self.inside.version c.self.inside.bytes.now c.args.addr c.count_points_below-at.result _ c.self.inside.points.now c.if-at-points.true c.count_points_below-at.ensures c.if-points-at.true))

pub returns : goal.returns
returns c =
    let rising = c.self.invariant.rising in
    sym (ap (λ (n : NodeData). state_of c.args.addr n.points) (sym c.self.view_is)
    ∙ ap (option_map (λ (p : Point). p.state)) (elim c.else-at-points.branch [
      | else-at-points-via-then-at-points+else-points-at w ↦
          point_missing c.self.inside.version c.self.inside.bytes.now c.args.addr c.count_points_below-at.result _ c.self.inside.points.now rising c.count_points_below-at.ensures w.if-points-at.false
      | else-at-points-via-else-at-points w ↦
          point_past c.self.inside.version c.self.inside.bytes.now c.args.addr c.count_points_below-at.result c.self.inside.points.now c.count_points_below-at.ensures w.if-at-points.false
    ]))
