use Rattle.std.proofs.Common.{refl, sym, ap, ◌∙◌}
use Rattle.tcd_plan.specs.PlanData.{PlanData}
use Rattle.cfg_recover.proofs.AccessDuties.{owes_no_access}
use Rattle.depth_maker.proofs.entered_frames.may_enter_misaligned_handler.Goals as goal

pub returns-else-plan : goal.returns-else-plan
returns-else-plan c =
    let v = c.args.v.now in
    let f = c.requires.stands in
    let rule = ((f.faultless 10).own c.args.found.now.shape c.args.found.now.size f.code).accesses refl in
    rw c.if-plan.false
    (owes_no_access v.ground.now.bounds.now v.ground.now.plan.now v.key v.state.now c.args.found.now.shape rule (sym (ap (λ (p : PlanData). p.aln) c.plan.view_is) ∙ c.if-plan.false))
