use Rattle.std.proofs.Common.{◌<◌, ◌^◌}
use Rattle.vd_transfer.proofs.OpLaws.{words_result}
use Rattle.vd_transfer.proofs.operations.evaluate_operation.Goals as goal

pub returns-in-Some-arg_word-clause-of : goal.returns-in-Some-arg_word-clause-of
returns-in-Some-arg_word-clause-of c =
    let small : c.alu.result < 2 ^ 32 = c.alu.type_inv in
    rw (rw c.in-Some.is at c.arg_word.ensures.arg, rw c.in-Some-arg_word.is at c.arg_word-in-Some.ensures.arg, c.write_constant.ensures.word, c.alu.ensures)
    (words_result c.args.b.now c.args.of.op c.in-Some.x c.in-Some-arg_word.y c.most_words-most_words.ensures.limits (rw c.alu.ensures at small))
