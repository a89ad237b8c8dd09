use Rattle.std.proofs.Common.{◌<◌, ◌^◌, arith}
use Rattle.vd_transfer.proofs.OpLaws.{pair_one}
use Rattle.vd_transfer.proofs.operations.write_results_of_pairs.Goals as goal

pub returns-then-ys-eq1-clause-cover : goal.returns-then-ys-eq1-clause-cover
returns-then-ys-eq1-clause-cover c =
    let small : c.alu.result < 2 ^ 32 = c.alu.type_inv in
    rw (c.write_constant.ensures.word, c.alu.ensures)
    (pair_one c.args.b.now c.args.op c.args.xs.now c.args.ys.now c.most_words-most_words.ensures.limits (omega arith) (omega arith) (rw c.alu.ensures at small))
