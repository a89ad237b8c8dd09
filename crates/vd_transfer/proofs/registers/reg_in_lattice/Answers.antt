use Rattle.tcd_plan.specs.PlanData.{plan_data}
use Rattle.vd_transfer.proofs.RegisterLaws.{reg_is_value}
use Rattle.vd_transfer.proofs.registers.reg_in_lattice.Goals as goal

pub returns-clause-value : goal.returns-clause-value
returns-clause-value c =
    rw (c.reg.ensures, ← c.plan.view_is) (reg_is_value c.args.b.now (plan_data c.plan.inside) c.args.s.now c.args.r c.most_words-most_words.ensures.limits c.plan.invariant.words.globals c.requires.values)
