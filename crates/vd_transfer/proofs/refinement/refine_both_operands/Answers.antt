use Rattle.std.proofs.Common.{ap, ◌∙◌, Some, subst, sym}
use Rattle.value_domain.specs.declared.states.State.{State}
use Rattle.value_domain.specs.State.{AreInLattice}
use Rattle.vd_transfer.specs.Changes.{state_after}
use Rattle.vd_transfer.proofs.ChangeLaws.{second-is, second_values, second-free}
use Rattle.vd_transfer.proofs.SideLaws.{two_none, two_half, two_both}
use Rattle.vd_transfer.proofs.refinement.refine_both_operands.Goals as goal

pub returns-then-not-narrow_left_register-clause-two : goal.returns-then-not-narrow_left_register-clause-two
returns-then-not-narrow_left_register-clause-two c = two_none _ _ _ _ _ (rw c.if-not-narrow_left_register.true at c.narrow_left_register.ensures.one)

pub returns-then-not-refine_right_operand-clause-two : goal.returns-then-not-refine_right_operand-clause-two
returns-then-not-refine_right_operand-clause-two c =
    two_half c.args.s.now (state_after c.args.s.now c.narrow_left_register.new.c) _ _ _ _ (rw c.if-not-narrow_left_register.false at c.narrow_left_register.ensures.one)
    (rw c.if-not-refine_right_operand.true at c.refine_right_operand.ensures.kept)

pub returns-then-not-refine_right_operand-clause-values : goal.returns-then-not-refine_right_operand-clause-values
returns-then-not-refine_right_operand-clause-values c =
    subst (λ (t : State). AreInLattice c.args.b.now t.regs) (sym (second-free c.args.s.now c.narrow_left_register.new.c c.refine_right_operand.new.out c.narrow_left_register.ensures.free.0)) c.narrow_left_register.ensures.values

pub returns-clause-two : goal.returns-clause-two
returns-clause-two c =
    rw c.arg_slot-c.ensures
    (ap (λ (t : State). Some t) (second-is c.args.s.now c.narrow_left_register.new.c c.args.test.y c.refine_right_operand.new.out c.narrow_left_register.ensures.free.0 c.narrow_left_register.ensures.free.1)
    ∙ two_both c.args.s.now (state_after c.args.s.now c.narrow_left_register.new.c) c.args.test.x c.args.test.y _ _ c.refine_right_operand.new.out (rw c.if-not-narrow_left_register.false at c.narrow_left_register.ensures.one)
    (rw c.if-not-refine_right_operand.false at c.refine_right_operand.ensures.kept))

pub returns-clause-values : goal.returns-clause-values
returns-clause-values c =
    rw c.arg_slot-c.ensures
    (second_values c.args.b.now c.args.s.now c.narrow_left_register.new.c c.args.test.y c.refine_right_operand.new.out c.narrow_left_register.ensures.free.0 c.narrow_left_register.ensures.free.1 c.narrow_left_register.ensures.values
    (rw c.if-not-refine_right_operand.false at c.refine_right_operand.ensures.value))
