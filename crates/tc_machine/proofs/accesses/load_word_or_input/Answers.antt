use Rattle.std.proofs.Common.{arith}
use Rattle.tc_machine.proofs.WholeAccesses.{loaded_word}
use Rattle.tc_machine.proofs.accesses.load_word_or_input.Goals as goal

pub returns-in-Some : goal.returns-in-Some
returns-in-Some c = loaded_word c.args.mem.now c.args.input c.args.addr c.in-Some.word (omega arith) c.in-Some.ensures.word
