use Rattle.tcd_reading.proofs.Told.{comes_stopped, leads_read, comes_told}
use Rattle.tcd_driver.proofs.commands.bootgen.generate_boot_source.Goals as goal

pub returns-in_err-board : goal.returns-in_err-board
returns-in_err-board g c = comes_stopped _ _ _ _ _ _ _ c.from_residual.result c.from_residual.ensures.1 c.in_err-board.ensures.leaves c.in_err-board.ensures.later c.in_err-board.ensures.stops

pub returns : goal.returns
returns g c = (leads_read _ _ _ _ _ _ _ c.in_ok-board.ensures.leaves c.in_ok-board.ensures.later c.in_ok-board.ensures.found).comes _ _ (comes_told _ _ _ c.bootgen_report.ensures)
