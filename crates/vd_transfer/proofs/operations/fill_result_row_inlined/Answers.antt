use Rattle.vd_transfer.proofs.OpLaws.{row_next, row_whole}
use Rattle.vd_transfer.proofs.operations.fill_result_row_inlined.Goals as goal

pub loop-i-preserved : goal.loop-i-preserved
loop-i-preserved c = rw c.alu.ensures (row_next c.args.op c.args.x c.loop-i.i c.args.ys.now c.loop-i.row c.loop-i-test.true c.loop-i.invariant.0 c.loop-i.invariant.1)

pub returns : goal.returns
returns c = row_whole c.args.op c.args.x c.loop-i.i c.args.ys.now c.loop-i.row c.loop-i-test.false c.loop-i.invariant.0 c.loop-i.invariant.1
