use Rattle.tcd_plan.specs.PlanData.{plan_data}
use Rattle.vd_transfer.specs.Changes.{state_after}
use Rattle.vd_transfer.proofs.RegisterLaws.{at_is_value, fixed_is_value}
use Rattle.vd_transfer.proofs.changed_states.changed_reg.Goals as goal

pub returns-in-Some-clause-value : goal.returns-in-Some-clause-value
returns-in-Some-clause-value c =
    rw (c.copy.ensures, c.changed_value.ensures) (at_is_value c.args.b.now (state_after c.args.s.now c.args.c.now).regs c.in-Some.i c.most_words-most_words.ensures.limits c.requires.values)

pub returns-in-None-clause-value : goal.returns-in-None-clause-value
returns-in-None-clause-value c =
    rw (c.fixed_register_value.ensures, ← c.plan.view_is) (fixed_is_value c.args.b.now (plan_data c.plan.inside) c.args.r c.most_words-most_words.ensures.limits c.plan.invariant.words.globals)
