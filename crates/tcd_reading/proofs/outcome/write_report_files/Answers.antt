use Rattle.tcd_reading.proofs.Writes.{wrote_more, stopped_at, item_name, item_bytes, set_by, others_by}
use Rattle.tcd_reading.proofs.outcome.write_report_files.Goals as goal

pub returns-in-Err-clause-stopped : goal.returns-in-Err-clause-stopped
returns-in-Err-clause-stopped g c =
    stopped_at c.args.writes.now c.loop-write.write-index c.write-item.result _ _ _ c.loop-write-test.true c.loop-write.invariant
    (others_by _ _ _ _ (item_name c.args.writes.now c.loop-write.write-index c.write-item.result _ _ c.write-item.is c.write.view_is c.deref.ensures) c.in-Err.ensures.others)

pub loop-write-preserved : goal.loop-write-preserved
loop-write-preserved g c =
    wrote_more c.args.writes.now c.loop-write.write-index c.write-item.result _ _ _ c.loop-write-test.true c.loop-write.invariant
    (set_by _ _ _ _ _ _ (item_name c.args.writes.now c.loop-write.write-index c.write-item.result _ _ c.write-item.is c.write.view_is c.deref.ensures)
    (item_bytes c.args.writes.now c.loop-write.write-index c.write-item.result _ _ c.write-item.is c.write.view_is c.deref-in-loop-write.ensures.value) c.in-Ok.ensures.set)
    c.write-in-loop-write.ensures.leaves c.write-in-loop-write.ensures.cause.later
