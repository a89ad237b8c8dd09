use Rattle.value_domain.proofs.RangeLaws.{one_value}
use Rattle.vd_transfer.proofs.RegisterLaws.{word_value}
use Rattle.vd_transfer.proofs.operands.arg_word.Goals as goal

pub returns-in-Some-clause-arg : goal.returns-in-Some-clause-arg
returns-in-Some-clause-arg c =
    let here = rw c.in-Some.is at c.reg_in_state.ensures.reg in
    rw c.in-Reg.is (rw here at c.singleton_word.ensures)

pub returns-in-Some-clause-value : goal.returns-in-Some-clause-value
returns-in-Some-clause-value c = word_value c.args.b.now _ c.singleton_word.result (rw c.in-Some.is at c.reg_in_state.ensures.value) c.singleton_word.ensures

pub returns-in-Word-clause-value : goal.returns-in-Word-clause-value
returns-in-Word-clause-value c = one_value c.args.b.now c.in-Word.w c.most_words-most_words.ensures.limits (rw c.in-Word.is at c.requires.operand)
