use Rattle.tc_disasm.proofs.Whole.{reads_back}
use Rattle.tc_disasm.proofs.laws.listings_read_back.Goals as goal

pub returns : goal.returns
returns c = λ i is. reads_back i is
