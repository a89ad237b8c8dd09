use Rattle.std.proofs.Common.{arith}
use Rattle.tc_asm.proofs.PartLaws.{length-zeros}
use Rattle.tc_asm.proofs.sections.section_len.Goals as goal

pub returns : goal.returns
returns c = omega (arith, length-zeros c.args.part.now.bytes.items c.args.part.now.zeros)
