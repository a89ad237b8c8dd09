use Rattle.std.proofs.Common.{arith}
use Rattle.tc_mem.proofs.Search.{narrowed_up, narrowed_down, narrowed_out}
use Rattle.tc_mem.proofs.page_numbers.binary_search_page.Goals as goal

pub loop-from-preserved-then-at-number-2 : goal.loop-from-preserved-then-at-number-2
loop-from-preserved-then-at-number-2 c = narrowed_up _ _ _ _ _ c.requires c.loop-from.invariant (omega arith) c.if-at-number-2.true

pub loop-from-preserved : goal.loop-from-preserved
loop-from-preserved c = narrowed_down _ _ _ _ _ c.requires c.loop-from.invariant (omega arith) (omega arith) c.if-at-number.false c.if-at-number-2.false

pub returns-clause-none : goal.returns-clause-none
returns-clause-none c = narrowed_out _ _ _ _ c.loop-from.invariant (omega arith)
