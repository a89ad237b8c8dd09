use Rattle.std.proofs.Common.{sym, ◌∙◌}
use Rattle.tcd_plan.specs.PlanData.{plan_data}
use Rattle.store_ranges.proofs.StoreLaws.{ram_stays, device_stays, none_stays}
use Rattle.store_ranges.proofs.ranges.store_range_end.Goals as goal

pub returns-in-Some : goal.returns-in-Some
returns-in-Some c =
    let found = rw c.as_slice.ensures.value at (sym c.in-Some.ensures) in
    rw (← c.plan.view_is, c.end.ensures) (ram_stays (plan_data c.plan.inside) c.args.x c.args.size c.in-Some.range c.plan.invariant found)

pub returns-in_err-device-in-None : goal.returns-in_err-device-in-None
returns-in_err-device-in-None c =
    let no_ram = rw c.as_slice.ensures.value at (sym c.in-None.ensures) in
    let no_device = rw c.as_slice-in-None.ensures.value at (sym c.device_of_accesses.ensures ∙ c.in_err-device-in-None.was) in
    rw (← c.plan.view_is, c.from_residual.ensures) (none_stays (plan_data c.plan.inside) c.args.x c.args.size no_ram no_device)

pub returns-in_ok-device-in-None : goal.returns-in_ok-device-in-None
returns-in_ok-device-in-None c =
    let found = rw c.as_slice-in-None.ensures.value at (sym c.device_of_accesses.ensures ∙ c.in_ok-device-in-None.was) in
    rw (← c.plan.view_is, c.end-in-None.ensures) (device_stays (plan_data c.plan.inside) c.args.x c.args.size c.in_ok-device-in-None.device c.plan.invariant found)
