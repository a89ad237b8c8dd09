use Rattle.tcd_reading.proofs.Told.{comes_stopped, leads_read, comes_told}
use Rattle.tcd_driver.proofs.commands.asm.assemble_file.Goals as goal

pub returns-in_err-made : goal.returns-in_err-made
returns-in_err-made g c = comes_stopped _ _ _ _ _ _ _ c.from_residual.result c.from_residual.ensures.1 c.in_err-made.ensures.leaves c.in_err-made.ensures.later c.in_err-made.ensures.stops

pub returns : goal.returns
returns g c = (leads_read _ _ _ _ _ _ _ c.in_ok-made.ensures.leaves c.in_ok-made.ensures.later c.in_ok-made.ensures.found).comes _ _ (comes_told _ _ _ c.object_report.ensures)
