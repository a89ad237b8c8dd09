use Rattle.std.proofs.Common.{sym, subst}
use Rattle.tcd_plan.specs.PlanData.{IsPlan}
use Rattle.value_domain.specs.declared.states.State.{State}
use Rattle.value_domain.specs.State.{AreWellFormed}
use Rattle.depth_check.proofs.WellLaws.{well_start}
use Rattle.depth_check.proofs.certificates.start_node.Goals as goal

pub has_covering_point-requires : goal.has_covering_point-requires
has_covering_point-requires c = subst (λ (t : State). AreWellFormed t.regs) (sym c.start_state.ensures) (well_start c.args.plan.now (subst IsPlan c.plan.view_is c.plan.invariant))
