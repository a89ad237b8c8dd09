use Rattle.std.proofs.Common.{List, subst, sym}
use Rattle.std.specs.Prelude.{IsTrue, IsSomeAnd, ◌↔◌}
use Rattle.value_domain.specs.declared.states.State.{State}
use Rattle.value_domain.specs.State.{AreWellFormed, Covers}
use Rattle.depth_cert.specs.declared.points.Point.{Point}
use Rattle.depth_cert.specs.Points.{find_point}
use Rattle.cfg_recover.proofs.OperationLaws.{same_word}
use Rattle.depth_check.specs.PointChecks.{point_check_data}
use Rattle.depth_check.proofs.Deciding.{yes}
use Rattle.depth_check.proofs.RepeatLaws.{known_covers}
use Rattle.depth_check.proofs.RuleLaws.{values_well}
use Rattle.depth_check.proofs.node_covers.is_own_state_covered.Goals as goal

pub returns-then-eq : goal.returns-then-eq
returns-then-eq c =
    let t = point_check_data c.at.inside in
    rw (← c.at.view_is) (yes _ (known_covers t.node c.at.inside.point.next c.args.addr t.point.state (same_word c.at.inside.point.next c.args.addr c.eq.result c.eq.ensures c.if-eq.true) c.at.invariant.facts.next))

pub is_covered_at-requires : goal.is_covered_at-requires
is_covered_at-requires c =
    let ahead = c.at.invariant.facts.walk in
    subst (λ (s : State). AreWellFormed s.regs) (sym ahead.current) (values_well c.at.inside.bounds.now _ c.at.invariant.values)

pub returns : goal.returns
returns c =
    let ahead = c.at.invariant.facts.walk in
    rw (← c.at.view_is)
    (subst (λ (s : State). IsTrue c.is_covered_at.result ↔ IsSomeAnd (find_point c.args.addr c.at.inside.node.now.points) (λ p. Covers p.state s)) ahead.current
    (subst (λ (ps : List Point). IsTrue c.is_covered_at.result ↔ IsSomeAnd (find_point c.args.addr ps) (λ p. Covers p.state c.at.inside.point.walk.now.current)) ahead.points c.is_covered_at.ensures))
