use Rattle.std.proofs.Common.{arith}
use Rattle.tcd_base.proofs.NameAnswers.{answer_is}
use Rattle.tcd_base.proofs.name_bytes.is_name_byte.Goals as goal

pub returns : goal.returns
returns c = answer_is 0 c.args.c c.args.c c.name_byte_table-answers.result.now c.name_byte_table-answers.ensures.answers (omega (arith, c.name_byte_table-answers.ensures.count, c.ranges.c)) (omega arith)
