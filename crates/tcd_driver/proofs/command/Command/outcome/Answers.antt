use Rattle.std.proofs.Common.{refl}
use Rattle.tcd_driver.proofs.GenReports.{comes_generated}
use Rattle.tcd_driver.proofs.command.Command.outcome.Goals as goal

pub returns-in-Gen : goal.returns-in-Gen
returns-in-Gen g c = comes_generated c.args.self _ c.in-Gen.functions _ _ c.in-Gen.is refl c.certify_generated_image.ensures
