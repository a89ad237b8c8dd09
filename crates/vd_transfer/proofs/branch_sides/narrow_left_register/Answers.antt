use Rattle.std.proofs.Common.{ap, ◌∙◌, Some}
use Rattle.value_domain.specs.declared.states.State.{State}
use Rattle.vd_transfer.specs.Branches.{state_with_narrowed_register}
use Rattle.vd_transfer.proofs.ChangeLaws.{one-is, one_values}
use Rattle.vd_transfer.proofs.branch_sides.narrow_left_register.Goals as goal

pub returns-then-not-refine_left_operand-clause-one : goal.returns-then-not-refine_left_operand-clause-one
returns-then-not-refine_left_operand-clause-one c = ap (state_with_narrowed_register c.args.s.now c.args.test.x) (rw c.if-not-refine_left_operand.true at c.refine_left_operand.ensures.kept)

pub returns-then-not-refine_left_operand-clause-values : goal.returns-then-not-refine_left_operand-clause-values
returns-then-not-refine_left_operand-clause-values c = rw c.set_to_identity.ensures.kept c.requires.values

pub returns-clause-one : goal.returns-clause-one
returns-clause-one c =
    rw (c.set_to_identity.ensures.kept, c.register_slot-c.ensures.slot)
    (ap (λ (t : State). Some t) (one-is c.args.s.now c.args.c.now c.args.test.x c.refine_left_operand.new.out)
    ∙ ap (state_with_narrowed_register c.args.s.now c.args.test.x) (rw c.if-not-refine_left_operand.false at c.refine_left_operand.ensures.kept))

pub returns-clause-values : goal.returns-clause-values
returns-clause-values c =
    rw (c.set_to_identity.ensures.kept, c.register_slot-c.ensures.slot)
    (one_values c.args.b.now c.args.s.now c.args.c.now c.args.test.x c.refine_left_operand.new.out c.requires.values (rw c.if-not-refine_left_operand.false at c.refine_left_operand.ensures.value))
