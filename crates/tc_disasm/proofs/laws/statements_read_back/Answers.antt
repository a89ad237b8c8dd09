use Rattle.tc_disasm.proofs.Printing.{statement-printed}
use Rattle.tc_disasm.proofs.laws.statements_read_back.Goals as goal

pub returns : goal.returns
returns c = statement-printed
