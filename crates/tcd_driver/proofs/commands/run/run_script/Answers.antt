use Rattle.std.proofs.Common.{◌∙◌, ap}
use Rattle.tcd_reading.specs.Reports.{text_report}
use Rattle.tcd_driver.specs.Run.{ran}
use Rattle.tcd_reading.specs.declared.status.Status.TheVariants.{Done}
use Rattle.tcd_driver.proofs.CommandLaws.{told_is}
use Rattle.tcd_driver.proofs.commands.run.run_script.Goals as goal

pub returns : goal.returns
returns c =
    ran c.in_ok-machine.machine c.in_ok-machine.ensures (c.drive_by_script-done.ensures).fits
    (c.of.ensures ∙ ap (λ t. text_report Done t)
    (c.in_ok-line.ensures ∙ told_is c.args.plan.now c.args.script.now c.in_ok-machine.machine c.drive_by_script-done.new.m c.drive_by_script-done.result c.drive_by_script-done.ensures))
