use Rattle.tcd_reading.proofs.Told.{comes_stopped, leads_read, comes_told}
use Rattle.tcd_driver.proofs.commands.dis.disassemble_file.Goals as goal

pub returns-in_err-image : goal.returns-in_err-image
returns-in_err-image g c = comes_stopped _ _ _ _ _ _ _ c.from_residual.result c.from_residual.ensures.1 c.in_err-image.ensures.leaves c.in_err-image.ensures.later c.in_err-image.ensures.stops

pub returns : goal.returns
returns g c = (leads_read _ _ _ _ _ _ _ c.in_ok-image.ensures.leaves c.in_ok-image.ensures.later c.in_ok-image.ensures.found).comes _ _ (comes_told _ _ _ c.listing_report.ensures)
