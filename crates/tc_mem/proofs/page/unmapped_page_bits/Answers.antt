use Rattle.tc_mem.proofs.Marks.{is_set-zeros}
use Rattle.tc_mem.proofs.page.unmapped_page_bits.Goals as goal

pub returns-clause-clear : goal.returns-clause-clear
returns-clause-clear c = is_set-zeros
