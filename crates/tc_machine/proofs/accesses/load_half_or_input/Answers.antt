use Rattle.std.proofs.Common.{arith}
use Rattle.tc_machine.proofs.WholeAccesses.{loaded_half}
use Rattle.tc_machine.proofs.accesses.load_half_or_input.Goals as goal

pub returns-in-Some : goal.returns-in-Some
returns-in-Some c = loaded_half c.args.mem.now c.args.input c.args.addr c.in-Some.half (omega arith) c.in-Some.ensures.half
