use Rattle.std.proofs.Common.{◌-◌}
use Rattle.tc_mem.proofs.Search.{Narrowed}
use Rattle.tc_mem.proofs.page_numbers.binary_search_page.Given as goal

abbrev pub invariant-loop-from : goal.invariant-loop-from
invariant-loop-from l = Narrowed l.pages l.number l.from l.to

abbrev pub decreases-loop-from : goal.decreases-loop-from
decreases-loop-from l = l.to - l.from
