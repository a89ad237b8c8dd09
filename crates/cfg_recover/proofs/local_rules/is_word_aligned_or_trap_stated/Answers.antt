use Rattle.tcd_plan.specs.PlanData.{plan_data}
use Rattle.cfg_recover.proofs.LocalLaws.{word_allowed}
use Rattle.cfg_recover.proofs.local_rules.is_word_aligned_or_trap_stated.Goals as goal

pub returns-else-plan : goal.returns-else-plan
returns-else-plan c = rw c.from.ensures (word_allowed (plan_data c.plan.inside) c.args.plan.now c.args.x c.args.size c.plan.view_is c.if-plan.false)
