use Rattle.tc_mem.proofs.Marks.{is_set-filled}
use Rattle.tc_mem.proofs.page.set_page_bit_block.Goals as goal

pub returns : goal.returns
returns c = λ k h. is_set-filled c.args.mapped.now c.args.offset k c.told-mapped c.requires.aligned c.requires.within
