use Rattle.std.proofs.Common.{subst}
use Rattle.tc_link.specs.Layouts.{IsLayout}
use Rattle.tcd_reading.proofs.Told.{told_more}
use Rattle.tcd_driver.proofs.ShipReports.{image_report, unlinked_report}
use Rattle.tcd_driver.proofs.commands.ship.ship_objects.Goals as goal

pub returns-in-Ok : goal.returns-in-Ok
returns-in-Ok c =
    λ ss are. told_more _ _ c.ship_image.result c.ship_image.ensures
    (λ r p. image_report c.args.names.now.elf.now c.args.names.now.cert.now c.args.plan.now c.args.layout.now ss c.args.objects.now c.in-Ok.image r (subst IsLayout c.layout.view_is c.layout.invariant) are c.in-Ok.ensures.ok p)

pub returns-in_ok-bad_link_line-in-Err : goal.returns-in_ok-bad_link_line-in-Err
returns-in_ok-bad_link_line-in-Err c =
    λ ss are. unlinked_report c.args.names.now.elf.now c.args.names.now.cert.now c.args.plan.now c.args.layout.now ss c.args.objects.now c.in-Err.e _ _ are c.in-Err.ensures.err c.in_ok-bad_link_line-in-Err.ensures.line
    (λ e. let none = c.in_ok-bad_link_line-in-Err.ensures.memory e in cc) c.of.ensures
