use Rattle.tcd_plan.specs.PlanData.{plan_data}
use Rattle.cfg_recover.proofs.LocalLaws.{allowed_untrapped}
use Rattle.cfg_recover.proofs.local_rules.is_aligned_or_trap_stated.Goals as goal

pub returns-else-plan : goal.returns-else-plan
returns-else-plan c = allowed_untrapped (plan_data c.plan.inside) c.args.plan.now c.aligned.result c.args.at.now c.args.size c.requires.well c.plan.view_is c.if-plan.false c.aligned.ensures
