use Rattle.tcd_plan.specs.PlanData.{plan_data}
use Rattle.value_domain.proofs.RangeLaws.{one_value}
use Rattle.vd_transfer.proofs.RegisterLaws.{reg_is_value}
use Rattle.cfg_recover.proofs.entry_changes.handler_entry_sp.Goals as goal

pub returns-then-key-clause-value : goal.returns-then-key-clause-value
returns-then-key-clause-value c =
    rw (c.reg.ensures, ← c.plan.view_is) (reg_is_value c.args.b.now (plan_data c.plan.inside) c.args.s.now 26 c.most_words-most_words.ensures.limits c.plan.invariant.words.globals c.requires)

pub returns-else-key-clause-value : goal.returns-else-key-clause-value
returns-else-key-clause-value c = rw c.one.ensures (one_value c.args.b.now c.plan.inside.isp c.most_words-most_words.ensures.limits c.plan.invariant.words.isp)
