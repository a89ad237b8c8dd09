use Rattle.tc_asm.proofs.Instructions.{instructions_law}
use Rattle.tc_asm.proofs.ShortJumps.{short_jumps_law}
use Rattle.tc_asm.proofs.laws.instruction_laws.Goals as goal

pub returns-clause-instructions : goal.returns-clause-instructions
returns-clause-instructions c = instructions_law

pub returns-clause-jumps : goal.returns-clause-jumps
returns-clause-jumps c = short_jumps_law
