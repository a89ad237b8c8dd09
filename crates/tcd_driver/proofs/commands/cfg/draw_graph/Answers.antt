use Rattle.std.proofs.Common.{Err}
use Rattle.tcd_driver.specs.BestCert.{IsBestCertOrErr}
use Rattle.tcd_driver.specs.Cfg.{IsCfgReport, refused, drawn}
use Rattle.tcd_driver.proofs.MakingLaws.{unmade}
use Rattle.tcd_driver.proofs.commands.cfg.draw_graph.Goals as goal

pub cfg_command_text-requires : goal.cfg_command_text-requires
cfg_command_text-requires c = (c.in-Ok.ensures).0

pub returns-in_ok-text-in-Ok : goal.returns-in_ok-text-in-Ok
returns-in_ok-text-in-Ok c = drawn _ c.in_ok-text-in-Ok.ensures c.of.ensures

pub returns-in-Err : goal.returns-in-Err
returns-in-Err c =
    unmade (IsCfgReport c.args.image.now c.args.plan.now) (λ e. IsBestCertOrErr c.args.image.now c.args.plan.now (Err e)) c.in-Err.e _ c.in-Err.ensures c.report_no_cert.ensures
    (λ rule key addr r why e. refused rule key addr why e)
