use Rattle.std.proofs.Common.{arith}
use Rattle.vd_transfer.proofs.OpLaws.{shift_fits, shift_whole}
use Rattle.vd_transfer.proofs.strided_interval.logical_shift_interval.Goals as goal

pub overflow_cast-result : goal.overflow_cast-result
overflow_cast-result c =
    record {
      fits = shift_fits c.from.result c.from-then-n-lt32.result c.args.n (omega (arith, c.from.ensures, c.from-then-n-lt32.ensures, c.requires.order)) c.if-last-lt-WORDS.true
          (shift_whole c.from-then-n-lt32.result c.args.n (let h = c.fits-e in omega arith) c.if-n-lt32.true);
    }
