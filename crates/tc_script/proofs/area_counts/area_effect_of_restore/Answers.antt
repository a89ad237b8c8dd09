use Rattle.std.proofs.Common.{arith}
use Rattle.tc_script.proofs.AreaLaws.{told_restore}
use Rattle.tc_script.proofs.area_counts.area_effect_of_restore.Goals as goal

pub returns : goal.returns
returns c = λ after s. told_restore c.args.used c.args.m.now after c.requires.counted c.requires.row (omega arith) s
