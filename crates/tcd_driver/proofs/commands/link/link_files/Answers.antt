use Rattle.tcd_reading.proofs.Told.{comes_stopped, leads_read}
use Rattle.tcd_driver.proofs.commands.link.link_files.Goals as goal

pub returns-in_err-places : goal.returns-in_err-places
returns-in_err-places g c = comes_stopped _ _ _ _ _ _ _ c.from_residual.result c.from_residual.ensures.1 c.in_err-places.ensures.leaves c.in_err-places.ensures.later c.in_err-places.ensures.stops

pub returns : goal.returns
returns g c = (leads_read _ _ _ _ _ _ _ c.in_ok-places.ensures.leaves c.in_ok-places.ensures.later c.in_ok-places.ensures.found).comes _ _ c.link_object_files.ensures
