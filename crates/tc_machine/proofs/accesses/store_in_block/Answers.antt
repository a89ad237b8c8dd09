use Rattle.std.proofs.Common.{arith}
use Rattle.tc_machine.proofs.WholeAccesses.{whole_word, whole_half}
use Rattle.tc_machine.proofs.accesses.store_in_block.Goals as goal

pub returns-in-4 : goal.returns-in-4
returns-in-4 c = rw c.in-4.is (whole_word c.args.mem.now c.set_word.new.self c.args.addr c.args.word c.set_word.result (omega arith) c.set_word.ensures.mapped c.set_word.ensures.written)

pub returns-in-2 : goal.returns-in-2
returns-in-2 c = rw c.in-2.is (whole_half c.args.mem.now c.set_half.new.self c.args.addr c.args.word c.set_half.result (omega arith) c.set_half.ensures.mapped c.set_half.ensures.written)
