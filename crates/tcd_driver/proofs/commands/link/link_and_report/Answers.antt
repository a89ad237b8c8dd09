use Rattle.tcd_reading.proofs.Told.{told_more}
use Rattle.tcd_driver.proofs.CommandLaws.{linked_image, refused_report}
use Rattle.tcd_driver.proofs.commands.link.link_and_report.Goals as goal

pub returns-in-Ok : goal.returns-in-Ok
returns-in-Ok c = told_more _ _ c.linked_image_report.result c.linked_image_report.ensures (λ r p. linked_image c.args.name.now c.args.layout.now c.args.objects.now c.in-Ok.image r c.in-Ok.ensures.ok p)

pub returns-in_ok-bad_link_line-in-Err : goal.returns-in_ok-bad_link_line-in-Err
returns-in_ok-bad_link_line-in-Err c =
    refused_report c.args.name.now c.args.layout.now c.args.objects.now c.in-Err.e _ _ c.in-Err.ensures.err c.in_ok-bad_link_line-in-Err.ensures.line (λ e. let none = c.in_ok-bad_link_line-in-Err.ensures.memory e in cc) c.of.ensures
