use Rattle.tc_mem.proofs.Marks.{is_set-ones}
use Rattle.tc_mem.proofs.page.mapped_page_bits.Goals as goal

pub returns-clause-set : goal.returns-clause-set
returns-clause-set c = is_set-ones
