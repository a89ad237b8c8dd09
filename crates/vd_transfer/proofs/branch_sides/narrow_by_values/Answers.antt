use Rattle.vd_transfer.proofs.branch_sides.narrow_by_values.Goals as goal

pub returns-in-Word-clause-two : goal.returns-in-Word-clause-two
returns-in-Word-clause-two c = rw c.in-Word.is (rw (rw c.in-Some.is at c.reg_in_state.ensures.reg) at c.narrow_against_constant.ensures.two)

pub returns-in-Some-reg_in_state-clause-two : goal.returns-in-Some-reg_in_state-clause-two
returns-in-Some-reg_in_state-clause-two c =
    let here = rw c.in-Some.is at c.reg_in_state.ensures.reg in
    let there = rw c.in-Some-reg_in_state.is at c.reg_in_state-in-Reg.ensures.reg in
    rw c.in-Reg.is (rw (here, there, c.in-Reg.is) at c.refine_both_operands.ensures.two)
