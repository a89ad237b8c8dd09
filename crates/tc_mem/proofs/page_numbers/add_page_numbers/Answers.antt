use Rattle.tc_mem.proofs.Numbers.{kept_more, added_more}
use Rattle.tc_mem.proofs.page_numbers.add_page_numbers.Goals as goal

pub loop-number-preserved : goal.loop-number-preserved
loop-number-preserved c = record {
  kept = λ n h. kept_more _ _ _ c.in_ok-push.ensures.items n (c.loop-number.invariant.kept n h);
  added = added_more _ _ _ _ c.in_ok-push.ensures.items c.loop-number.invariant.added;
}
