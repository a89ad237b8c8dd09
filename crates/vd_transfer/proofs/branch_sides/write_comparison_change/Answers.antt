use Rattle.std.proofs.Common.{ap, ◌∙◌, Option}
use Rattle.value_domain.specs.declared.states.State.{State}
use Rattle.vd_transfer.specs.Branches.{with_decremented_counter}
use Rattle.vd_transfer.proofs.branch_sides.write_comparison_change.Goals as goal

pub returns-then-not-narrow_operands-clause-refine : goal.returns-then-not-narrow_operands-clause-refine
returns-then-not-narrow_operands-clause-refine c =
    ap (λ (t : Option State). with_decremented_counter c.args.b.now c.args.plan.now c.args.test.x c.args.lowers t) (rw c.if-not-narrow_operands.true at c.narrow_operands.ensures.refined)

pub returns-clause-refine : goal.returns-clause-refine
returns-clause-refine c =
    c.decrement_if_loop.ensures.lowered
    ∙ ap (λ (t : Option State). with_decremented_counter c.args.b.now c.args.plan.now c.args.test.x c.args.lowers t) (rw c.if-not-narrow_operands.false at c.narrow_operands.ensures.refined)
