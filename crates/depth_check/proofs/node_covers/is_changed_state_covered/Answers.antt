use Rattle.std.proofs.Common.{subst, sym}
use Rattle.value_domain.specs.declared.states.State.{State}
use Rattle.value_domain.specs.State.{AreWellFormed}
use Rattle.vd_transfer.specs.Changes.{state_after}
use Rattle.cfg_recover.specs.RulesHoldOrFail.{HasCoveringPoint}
use Rattle.depth_check.specs.PointChecks.{point_check_data}
use Rattle.depth_check.proofs.Deciding.{yes}
use Rattle.depth_check.proofs.RuleLaws.{values_well}
use Rattle.depth_check.proofs.node_covers.is_changed_state_covered.Goals as goal

pub is_covered_by_next-requires-clause-hand : goal.is_covered_by_next-requires-clause-hand
is_covered_by_next-requires-clause-hand c =
    let ahead = c.at.invariant.facts.walk in
    subst (λ (s : State). AreWellFormed s.regs) (sym ahead.current) (values_well c.at.inside.bounds.now _ c.at.invariant.values)

pub is_covered_by_next-requires-clause-changed : goal.is_covered_by_next-requires-clause-changed
is_covered_by_next-requires-clause-changed c =
    let ahead = c.at.invariant.facts.walk in
    subst (λ (s : State). AreWellFormed (state_after s c.args.c.now).regs) (sym ahead.current) (rw (← c.at.view_is) at c.requires)

pub returns-then-is_covered_by_next : goal.returns-then-is_covered_by_next
returns-then-is_covered_by_next c =
    let t = point_check_data c.at.inside in
    let ahead = c.at.invariant.facts.walk in
    rw (c.if-is_covered_by_next.true, ← c.at.view_is)
    (yes _
    (subst (λ (s : State). HasCoveringPoint t.node c.args.addr (state_after s c.args.c.now)) ahead.current
    (ahead.ahead c.args.addr _ (c.is_covered_by_next.ensures c.if-is_covered_by_next.true))))
