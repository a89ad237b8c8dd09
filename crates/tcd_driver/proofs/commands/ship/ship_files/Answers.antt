use Rattle.tcd_reading.proofs.Told.{comes_stopped, leads_read}
use Rattle.tcd_driver.proofs.commands.ship.ship_files.Goals as goal

pub returns-in_err-plan : goal.returns-in_err-plan
returns-in_err-plan g c = comes_stopped _ _ _ _ _ _ _ c.from_residual.result c.from_residual.ensures.1 c.in_err-plan.ensures.leaves c.in_err-plan.ensures.later c.in_err-plan.ensures.stops

pub returns-in_err-layout : goal.returns-in_err-layout
returns-in_err-layout g c =
    (leads_read _ _ _ _ _ _ _ c.in_ok-plan.ensures.leaves c.in_ok-plan.ensures.later c.in_ok-plan.ensures.found).comes _ _
    (comes_stopped _ _ _ _ _ _ _ c.from_residual-in_err-layout.result c.from_residual-in_err-layout.ensures.1 c.in_err-layout.ensures.leaves c.in_err-layout.ensures.later c.in_err-layout.ensures.stops)

pub returns : goal.returns
returns g c =
    (leads_read _ _ _ _ _ _ _ c.in_ok-plan.ensures.leaves c.in_ok-plan.ensures.later c.in_ok-plan.ensures.found).comes _ _
    ((leads_read _ _ _ _ _ _ _ c.in_ok-layout.ensures.leaves c.in_ok-layout.ensures.later c.in_ok-layout.ensures.found).comes _ _ c.ship_sources.ensures)
