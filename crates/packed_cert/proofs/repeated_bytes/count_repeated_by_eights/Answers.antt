use Rattle.std.proofs.Common.{◌+◌, arith}
use Rattle.packed_cert.proofs.SameWords.{eight_more}
use Rattle.packed_cert.proofs.repeated_bytes.count_repeated_by_eights.Goals as goal

pub returns-then-not-are_eight_bytes_repeated-2-clause-same : goal.returns-then-not-are_eight_bytes_repeated-2-clause-same
returns-then-not-are_eight_bytes_repeated-2-clause-same c =
    eight_more c.args.bytes.now c.args.x c.args.y c.loop-i.i (λ k. (c.type_inv.bytes k).fits) (omega (arith, c.loop-i-test.true, c.requires.first)) (omega (arith, c.loop-i-test.true, c.requires.second)) c.loop-i.invariant.same (c.are_eight_bytes_repeated.ensures c.if-not-are_eight_bytes_repeated.false)

pub loop-i-preserved : goal.loop-i-preserved
loop-i-preserved c =
    let i = c.loop-i.i in
    let one = eight_more c.args.bytes.now c.args.x c.args.y i (λ k. (c.type_inv.bytes k).fits) (omega (arith, c.loop-i-test.true, c.requires.first)) (omega (arith, c.loop-i-test.true, c.requires.second)) c.loop-i.invariant.same (c.are_eight_bytes_repeated.ensures c.if-not-are_eight_bytes_repeated.false) in
    record {
      within = omega (arith, c.loop-i-test.true);
      same = eight_more c.args.bytes.now c.args.x c.args.y (i + 8) (λ k. (c.type_inv.bytes k).fits) (omega (arith, c.loop-i-test.true, c.requires.first)) (omega (arith, c.loop-i-test.true, c.requires.second)) one (c.are_eight_bytes_repeated-in-loop-i.ensures c.if-not-are_eight_bytes_repeated-2.false);
    }

pub returns-then-are_eight_bytes_repeated-clause-same : goal.returns-then-are_eight_bytes_repeated-clause-same
returns-then-are_eight_bytes_repeated-clause-same c =
    eight_more c.args.bytes.now c.args.x c.args.y c.loop-i.i (λ k. (c.type_inv.bytes k).fits) (omega (arith, c.if-i-n.true, c.requires.first)) (omega (arith, c.if-i-n.true, c.requires.second)) c.loop-i.invariant.same (c.are_eight_bytes_repeated-then-i-n.ensures c.if-are_eight_bytes_repeated.true)
