use Rattle.tcd_reading.proofs.Told.{comes_stopped, leads_read}
use Rattle.tcd_driver.proofs.Words.{leads_firmware}
use Rattle.tcd_driver.proofs.commands.tasks.check_tasks.Goals as goal

pub returns-in_err-image : goal.returns-in_err-image
returns-in_err-image g c = comes_stopped _ _ _ _ _ _ _ c.from_residual.result c.from_residual.ensures.1 c.in_err-image.ensures.leaves c.in_err-image.ensures.later c.in_err-image.ensures.stops

pub returns-in_err-board : goal.returns-in_err-board
returns-in_err-board g c =
    (leads_read _ _ _ _ _ _ _ c.in_ok-image.ensures.leaves c.in_ok-image.ensures.later c.in_ok-image.ensures.found).comes _ _
    (comes_stopped _ _ _ _ _ _ _ c.from_residual-in_err-board.result c.from_residual-in_err-board.ensures.1 c.in_err-board.ensures.leaves c.in_err-board.ensures.later c.in_err-board.ensures.stops)

pub returns-in_err-list : goal.returns-in_err-list
returns-in_err-list g c =
    (leads_firmware _ _ _ _ _ _ _ _ c.in_ok-image.ensures.leaves c.in_ok-image.ensures.later c.in_ok-image.ensures.found c.in_ok-board.ensures.leaves c.in_ok-board.ensures.later c.in_ok-board.ensures.found).comes _ _
    (comes_stopped _ _ _ _ _ _ _ c.from_residual-in_err-list.result c.from_residual-in_err-list.ensures.1 c.in_err-list.ensures.leaves c.in_err-list.ensures.later c.in_err-list.ensures.stops)

pub returns : goal.returns
returns g c =
    (leads_firmware _ _ _ _ _ _ _ _ c.in_ok-image.ensures.leaves c.in_ok-image.ensures.later c.in_ok-image.ensures.found c.in_ok-board.ensures.leaves c.in_ok-board.ensures.later c.in_ok-board.ensures.found).comes _ _
    ((leads_read _ _ _ _ _ _ _ c.in_ok-list.ensures.leaves c.in_ok-list.ensures.later c.in_ok-list.ensures.found).comes _ _ c.check_task_cert_files.ensures)
