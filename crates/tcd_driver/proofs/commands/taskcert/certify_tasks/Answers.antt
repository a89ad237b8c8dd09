use Rattle.std.proofs.Common.{length, sym, ap, ◌∙◌}
use Rattle.std.specs.Prelude.{map, string_bytes}
use Rattle.std.proofs.lemmas.List.{length-map}
use Rattle.task_chains.specs.Tasks.{TasksData}
use Rattle.tcd_reading.proofs.Told.{comes_stopped, leads_read}
use Rattle.tcd_driver.specs.Taskcert.{IsTaskcertReport}
use Rattle.tcd_driver.proofs.TaskcertReports.{comes_counted, comes_miscounted}
use Rattle.tcd_driver.proofs.Words.{leads_firmware}
use Rattle.tcd_driver.proofs.commands.taskcert.certify_tasks.Goals as goal

pub returns-in_err-image : goal.returns-in_err-image
returns-in_err-image g c = comes_stopped _ _ _ _ _ _ _ c.from_residual.result c.from_residual.ensures.1 c.in_err-image.ensures.leaves c.in_err-image.ensures.later c.in_err-image.ensures.stops

pub returns-in_err-board : goal.returns-in_err-board
returns-in_err-board g c =
    (leads_read _ _ _ _ _ _ _ c.in_ok-image.ensures.leaves c.in_ok-image.ensures.later c.in_ok-image.ensures.found).comes _ _
    (comes_stopped _ _ _ _ _ _ _ c.from_residual-in_err-board.result c.from_residual-in_err-board.ensures.1 c.in_err-board.ensures.leaves c.in_err-board.ensures.later c.in_err-board.ensures.stops)

pub returns-in_err-list : goal.returns-in_err-list
returns-in_err-list g c =
    (leads_firmware _ _ _ _ _ _ _ _ c.in_ok-image.ensures.leaves c.in_ok-image.ensures.later c.in_ok-image.ensures.found c.in_ok-board.ensures.leaves c.in_ok-board.ensures.later c.in_ok-board.ensures.found).comes _ _
    (comes_stopped _ _ _ _ _ _ _ c.from_residual-in_err-list.result c.from_residual-in_err-list.ensures.1 c.in_err-list.ensures.leaves c.in_err-list.ensures.later c.in_err-list.ensures.stops)

pub returns-then-certs-len : goal.returns-then-certs-len
returns-then-certs-len g c =
    (leads_firmware _ _ _ _ _ _ _ _ c.in_ok-image.ensures.leaves c.in_ok-image.ensures.later c.in_ok-image.ensures.found c.in_ok-board.ensures.leaves c.in_ok-board.ensures.later c.in_ok-board.ensures.found).comes _ _
    ((leads_read _ _ _ _ _ _ _ c.in_ok-list.ensures.leaves c.in_ok-list.ensures.later c.in_ok-list.ensures.found).comes _ _
    (comes_counted (map string_bytes c.args.certs.now) c.in_ok-list.list
    (IsTaskcertReport (map string_bytes c.args.certs.now) c.in_ok-image.image c.in_ok-board.board c.in_ok-list.list) (g.F.Files.seen c.read_input-3.new.files) c.taskcert_report.result
    (length-map c.args.certs.now string_bytes ∙ c.if-certs-len.true ∙ c.len.ensures.value ∙ ap (λ (t : TasksData). length t.list) c.list.view_is) c.taskcert_report.ensures))

pub returns : goal.returns
returns g c =
    (leads_firmware _ _ _ _ _ _ _ _ c.in_ok-image.ensures.leaves c.in_ok-image.ensures.later c.in_ok-image.ensures.found c.in_ok-board.ensures.leaves c.in_ok-board.ensures.later c.in_ok-board.ensures.found).comes _ _
    ((leads_read _ _ _ _ _ _ _ c.in_ok-list.ensures.leaves c.in_ok-list.ensures.later c.in_ok-list.ensures.found).comes _ _
    (comes_miscounted (map string_bytes c.args.certs.now) c.in_ok-list.list
    (IsTaskcertReport (map string_bytes c.args.certs.now) c.in_ok-image.image c.in_ok-board.board c.in_ok-list.list) (g.F.Files.seen c.read_input-3.new.files) c.report_wrong_cert_count.result
    (λ same. c.if-certs-len.false (sym (length-map c.args.certs.now string_bytes) ∙ same ∙ sym (c.len.ensures.value ∙ ap (λ (t : TasksData). length t.list) c.list.view_is))) c.report_wrong_cert_count.ensures))
