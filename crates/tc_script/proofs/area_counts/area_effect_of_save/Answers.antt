use Rattle.std.proofs.Common.{arith}
use Rattle.tc_script.proofs.AreaLaws.{told_save}
use Rattle.tc_script.proofs.area_counts.area_effect_of_save.Goals as goal

pub overflow_add-next : goal.overflow_add-next
overflow_add-next c = let first = c.requires.counted.first in omega arith

pub returns : goal.returns
returns c = λ after s. told_save c.args.used c.args.m.now after c.requires.counted c.requires.row (omega arith) (omega arith) (omega arith) s
