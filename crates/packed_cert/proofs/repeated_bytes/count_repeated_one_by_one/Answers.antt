use Rattle.std.proofs.Common.{◌+◌, refl, arith}
use Rattle.packed_cert.proofs.SameWords.{byte_more}
use Rattle.packed_cert.proofs.repeated_bytes.count_repeated_one_by_one.Goals as goal

pub loop-i-preserved : goal.loop-i-preserved
loop-i-preserved c = record {
  within = omega (arith, c.loop-i-test.true);
  same = byte_more c.args.bytes.now c.args.x c.args.y c.loop-i.i (c.loop-i.i + 1) (c.args.x + c.loop-i.i) (c.args.y + c.loop-i.i) refl refl refl (omega (arith, c.loop-i-test.true, c.requires.first)) (omega (arith, c.loop-i-test.true, c.requires.second)) c.loop-i.invariant.same c.if-bytes-x.false;
}
