use Rattle.tcd_plan.specs.PlanData.{plan_data}
use Rattle.store_ranges.proofs.LoadLaws.{device_bounds}
use Rattle.store_ranges.proofs.loads.device_of_load.Goals as goal

pub returns-clause-bounds : goal.returns-clause-bounds
returns-clause-bounds c =
    let found = rw c.as_slice.ensures.value at c.device_of_accesses.ensures in
    device_bounds (plan_data c.plan.inside) _ c.device_of_accesses.result c.plan.invariant found
