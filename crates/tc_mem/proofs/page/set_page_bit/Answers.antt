use Rattle.tc_mem.proofs.Marks.{is_set-marked}
use Rattle.tc_mem.proofs.page.set_page_bit.Goals as goal

pub returns : goal.returns
returns c = λ k h. is_set-marked c.args.mapped.now c.args.offset k c.told-mapped c.requires
