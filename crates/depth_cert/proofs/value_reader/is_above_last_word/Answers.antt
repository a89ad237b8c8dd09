use Rattle.std.proofs.Common.{sym}
use Rattle.depth_cert.proofs.ManyLaws.{is_above-last, some_elements}
use Rattle.depth_cert.proofs.value_reader.is_above_last_word.Goals as goal

pub returns-else-is_empty : goal.returns-else-is_empty
returns-else-is_empty c = sym (is_above-last c.args.before.now c.args.x (some_elements _ c.if-is_empty.ensures))
