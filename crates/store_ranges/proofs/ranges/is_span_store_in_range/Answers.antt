use Rattle.store_ranges.proofs.StoreLaws.{walk_more}
use Rattle.store_ranges.proofs.ranges.is_span_store_in_range.Goals as goal

pub loop-x-preserved : goal.loop-x-preserved
loop-x-preserved c =
    let next = rw c.from-in-loop-x.ensures at c.next_store_address-x.ensures in
    walk_more c.args.plan.now c.args.least c.args.last c.args.step c.args.size c.loop-x.x c.in-Some.end c.next_store_address-x.result c.loop-x.invariant c.in-Some.ensures next
