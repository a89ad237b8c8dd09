use Rattle.std.proofs.Common.{◌∙◌}
use Rattle.vd_transfer.proofs.OpLaws.{results_more}
use Rattle.vd_transfer.proofs.operations.join_results_of_word.Goals as goal

pub loop-y-preserved : goal.loop-y-preserved
loop-y-preserved c = record {
  cover = c.join_word.ensures.cover
      ∙ rw c.alu.ensures (results_more c.args.b.now c.args.v.now c.loop-y.v c.args.op c.args.x c.loop-y.y-index c.args.ys.now c.requires.well c.loop-y-test.true c.loop-y.invariant.cover);
  value = c.join_word.ensures.value;
}
