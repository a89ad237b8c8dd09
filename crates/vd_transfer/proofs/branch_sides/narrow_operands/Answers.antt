use Rattle.std.proofs.Common.{◌≡◌, ◌∙◌, sym}
use Rattle.tcd_plan.specs.PlanData.{plan_data}
use Rattle.vd_transfer.specs.Registers.{reg_of, arg_of}
use Rattle.value_domain.specs.Values.{word_val}
use Rattle.vd_transfer.proofs.RegisterLaws.{reg_is_value}
use Rattle.vd_transfer.proofs.SideLaws.{self_side, words_side, set_reg-own, set_arg-own}
use Rattle.vd_transfer.proofs.branch_sides.narrow_operands.Goals as goal

pub returns-then-is_same_register-clause-refined : goal.returns-then-is_same_register-clause-refined
returns-then-is_same_register-clause-refined c =
    rw (c.set_to_identity.ensures.same, sym c.is_same_register.ensures ∙ c.if-is_same_register.true, c.is_side_taken_by_equal_words.ensures)
    (self_side c.args.b.now c.args.test.cond c.args.test.side c.args.plan.now c.args.s.now c.args.test.x
    (rw (← c.plan.view_is) (reg_is_value c.args.b.now (plan_data c.plan.inside) c.args.s.now c.args.test.x c.most_words-most_words.ensures.limits c.plan.invariant.words.globals c.requires.values)))

pub returns-in-Some-arg_word-clause-refined : goal.returns-in-Some-arg_word-clause-refined
returns-in-Some-arg_word-clause-refined c =
    let left : reg_of c.args.plan.now c.args.s.now c.args.test.x ≡ word_val c.in-Some.x = rw c.in-Some.is at c.arg_word.ensures.arg in
    let right : arg_of c.args.plan.now c.args.s.now c.args.test.y ≡ word_val c.in-Some-arg_word.y = rw c.in-Some-arg_word.is at c.arg_word-in-Some.ensures.arg in
    rw (c.set_to_identity-in-Some-arg_word.ensures.same, sym c.is_same_register.ensures ∙ c.if-is_same_register.false, c.is_side_taken.ensures, left, right)
    (words_side c.args.b.now c.args.test.cond c.args.test.side c.args.s.now c.args.test.x c.args.test.y c.in-Some.x c.in-Some-arg_word.y
    (rw c.in-Some.is at c.arg_word.ensures.value) (rw c.in-Some-arg_word.is at c.arg_word-in-Some.ensures.value)
    (rw left at (set_reg-own c.args.plan.now c.args.s.now c.args.test.x)) (rw right at (set_arg-own c.args.plan.now c.args.s.now c.args.test.y)))

pub returns-in-None-arg_word-clause-refined : goal.returns-in-None-arg_word-clause-refined
returns-in-None-arg_word-clause-refined c = rw (sym c.is_same_register.ensures ∙ c.if-is_same_register.false) c.narrow_by_values.ensures.two

pub returns-in-None-clause-refined : goal.returns-in-None-clause-refined
returns-in-None-clause-refined c = rw (sym c.is_same_register.ensures ∙ c.if-is_same_register.false) c.narrow_by_values-in-None.ensures.two
