use Rattle.std.proofs.Common.{arith}
use Rattle.tc_mem.proofs.Marks.{is_set-whole}
use Rattle.tc_mem.proofs.page.set_page_bits_between.Goals as goal

pub returns-then-to-from-eq4096 : goal.returns-then-to-from-eq4096
returns-then-to-from-eq4096 c = λ k h. is_set-whole _ _ _ _ k (omega arith) c.requires.within h (c.mapped_page_bits.ensures.set k h)
