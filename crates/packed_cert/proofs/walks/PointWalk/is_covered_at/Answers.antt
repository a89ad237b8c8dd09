use Rattle.std.proofs.Common.{◌≡◌, ◌+◌, ◌-◌, ◌∙◌, true, false, refl, sym, ap, subst, arith}
use Rattle.std.specs.Prelude.{IsTrue, ◌↔◌}
use Rattle.value_domain.specs.declared.states.State.{State}
use Rattle.value_domain.specs.State.{Covers}
use Rattle.packed_cert.specs.PointsInBytes.{state_in_bytes, points_in_bytes}
use Rattle.packed_cert.specs.Walks.{WalkData, IsCoveredAt}
use Rattle.packed_cert.proofs.NodeFinds.{point_missing, point_past, covers_same, covered_found, covered_missing}
use Rattle.packed_cert.proofs.walks.PointWalk.is_covered_at.Goals as goal
use Rattle.packed_cert.proofs.walks.PointWalk.is_covered_at.Goals.{else-at-points-via-then-at-points+else-points-at, else-at-points-via-else-at-points}

pub returns-then-points-self : goal.returns-then-points-self
returns-then-points-self c =
    let own = c.self.inside in
    let last : own.next - 1 + 1 ≡ own.next = omega arith in
    let same = ap (state_in_bytes own.version own.bytes.now) (sym c.if-points-self.true) ∙ sym (c.self.invariant.here.last (own.next - 1) _ last) in
    subst (λ (w : WalkData). IsTrue true ↔ IsCoveredAt w c.args.addr) c.self.view_is
    (covered_found own.version own.bytes.now c.args.addr c.count_points_below-at.result _ own.points.now own.state true c.if-at-points.true c.count_points_below-at.ensures c.if-points-at.true
    (λ t. subst (λ (u : State). Covers u own.state) (sym same) (covers_same own.state), λ covers. refl))

pub returns-then-points-at : goal.returns-then-points-at
returns-then-points-at c =
    let own = c.self.inside in
    subst (λ (w : WalkData). IsTrue c.covers.result ↔ IsCoveredAt w c.args.addr) c.self.view_is
    (covered_found own.version own.bytes.now c.args.addr c.count_points_below-at.result _ own.points.now own.state c.covers.result c.if-at-points.true c.count_points_below-at.ensures c.if-points-at.true
    (subst (λ (u : State). IsTrue c.covers.result ↔ Covers u own.state) c.new.ensures c.covers.ensures))

pub returns : goal.returns
returns c =
    let own = c.self.inside in
    subst (λ (w : WalkData). IsTrue false ↔ IsCoveredAt w c.args.addr) c.self.view_is
    (covered_missing c.args.addr (points_in_bytes own.version own.bytes.now own.points.now) own.state
    (elim c.else-at-points.branch [
      | else-at-points-via-then-at-points+else-points-at w ↦
          point_missing own.version own.bytes.now c.args.addr c.count_points_below-at.result _ own.points.now c.self.invariant.rising c.count_points_below-at.ensures w.if-points-at.false
      | else-at-points-via-else-at-points w ↦ point_past own.version own.bytes.now c.args.addr c.count_points_below-at.result own.points.now c.count_points_below-at.ensures w.if-at-points.false
    ]))
