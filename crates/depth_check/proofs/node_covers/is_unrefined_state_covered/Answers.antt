use Rattle.std.proofs.Common.{sym, ap, ◌∙◌, subst}
use Rattle.value_domain.specs.declared.states.State.{State}
use Rattle.value_domain.specs.State.{AreWellFormed}
use Rattle.vd_transfer.specs.Changes.{state_after}
use Rattle.cfg_recover.specs.RulesHoldOrFail.{HasCoveringPoint}
use Rattle.cfg_recover.proofs.OperationLaws.{same_word}
use Rattle.depth_check.specs.PointChecks.{point_check_data}
use Rattle.depth_check.proofs.Deciding.{yes}
use Rattle.depth_check.proofs.RepeatLaws.{known_covers}
use Rattle.depth_check.proofs.RuleLaws.{values_well}
use Rattle.depth_check.proofs.node_covers.is_unrefined_state_covered.Goals as goal

pub returns-then-eq : goal.returns-then-eq
returns-then-eq c =
    let t = point_check_data c.at.inside in
    rw (← c.at.view_is) (yes _ (known_covers t.node c.at.inside.point.next c.args.addr t.point.state (same_word c.at.inside.point.next c.args.addr c.eq.result c.eq.ensures c.if-eq.true) c.at.invariant.facts.next))

pub is_covered_by_next-requires-clause-hand : goal.is_covered_by_next-requires-clause-hand
is_covered_by_next-requires-clause-hand c =
    let ahead = c.at.invariant.facts.walk in
    subst (λ (s : State). AreWellFormed s.regs) (sym ahead.current) (values_well c.at.inside.bounds.now _ c.at.invariant.values)

pub is_covered_by_next-requires-clause-changed : goal.is_covered_by_next-requires-clause-changed
is_covered_by_next-requires-clause-changed c =
    let ahead = c.at.invariant.facts.walk in
    let kept = ap (λ (s : State). state_after s c.set_to_identity.new.self) ahead.current ∙ c.set_to_identity.ensures.same in
    subst (λ (s : State). AreWellFormed s.regs) (sym kept) (values_well c.at.inside.bounds.now _ c.at.invariant.values)

pub returns-then-is_covered_by_next : goal.returns-then-is_covered_by_next
returns-then-is_covered_by_next c =
    let t = point_check_data c.at.inside in
    let ahead = c.at.invariant.facts.walk in
    let kept = ap (λ (s : State). state_after s c.set_to_identity.new.self) ahead.current ∙ c.set_to_identity.ensures.same in
    rw (c.if-is_covered_by_next.true, ← c.at.view_is) (yes _ (subst (λ (s : State). HasCoveringPoint t.node c.args.addr s) kept (ahead.ahead c.args.addr _ (c.is_covered_by_next.ensures c.if-is_covered_by_next.true))))
