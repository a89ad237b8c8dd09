use Rattle.std.proofs.Common.{subst}
use Rattle.tcd_plan.specs.PlanData.{IsPlan}
use Rattle.tc_script.proofs.Small.{IsScript-begun}
use Rattle.tc_script.proofs.reading.Draft.new.Goals as goal

pub invariant_of-result : goal.invariant_of-result
invariant_of-result c = IsScript-begun c.new.result.items c.as_slice.result.now c.initial_script_bounds.result.items c.new.ensures.items c.initial_script_bounds.ensures c.as_slice.ensures.fits

pub returns-clause-plan : goal.returns-clause-plan
returns-clause-plan c = subst IsPlan c.plan.view_is c.plan.invariant
