use Rattle.std.proofs.Common.{ap, ◌∙◌, Some}
use Rattle.value_domain.specs.Values.{members}
use Rattle.value_domain.specs.declared.states.State.{State}
use Rattle.vd_transfer.specs.declared.change.Change.{Change}
use Rattle.vd_transfer.specs.Branches.{state_with_narrowed_register}
use Rattle.vd_transfer.proofs.ChangeLaws.{one-is, one_values}
use Rattle.vd_transfer.proofs.SideLaws.{constant_side}
use Rattle.vd_transfer.proofs.branch_sides.narrow_against_constant.Goals as goal

pub returns-then-not-refine_left_operand-clause-two : goal.returns-then-not-refine_left_operand-clause-two
returns-then-not-refine_left_operand-clause-two c =
    ap (state_with_narrowed_register c.args.s.now c.args.test.x) (rw (c.if-not-refine_left_operand.true, c.write_constant.ensures.word) at c.refine_left_operand.ensures.kept)
    ∙ constant_side c.args.b.now c.args.test.cond c.args.test.side c.args.s.now c.args.test.x c.args.z (members c.args.v.now) _

pub returns-then-not-refine_left_operand-clause-values : goal.returns-then-not-refine_left_operand-clause-values
returns-then-not-refine_left_operand-clause-values c = rw c.set_to_identity.ensures.kept c.requires.values

pub returns-clause-two : goal.returns-clause-two
returns-clause-two c =
    let old : Change = record c.args.c.now { second = record c.args.c.now.second { value = c.write_constant.new.out } } in
    rw (c.set_to_identity.ensures.kept, c.register_slot-c.ensures.slot)
    (ap (λ (t : State). Some t) (one-is c.args.s.now old c.args.test.x c.refine_left_operand.new.out)
    ∙ ap (state_with_narrowed_register c.args.s.now c.args.test.x) (rw (c.if-not-refine_left_operand.false, c.write_constant.ensures.word) at c.refine_left_operand.ensures.kept)
    ∙ constant_side c.args.b.now c.args.test.cond c.args.test.side c.args.s.now c.args.test.x c.args.z (members c.args.v.now) _)

pub returns-clause-values : goal.returns-clause-values
returns-clause-values c =
    let old : Change = record c.args.c.now { second = record c.args.c.now.second { value = c.write_constant.new.out } } in
    rw (c.set_to_identity.ensures.kept, c.register_slot-c.ensures.slot)
    (one_values c.args.b.now c.args.s.now old c.args.test.x c.refine_left_operand.new.out c.requires.values (rw c.if-not-refine_left_operand.false at c.refine_left_operand.ensures.value))
