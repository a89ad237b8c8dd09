use Rattle.std.proofs.Common.{◌++◌, List, map, sym, ap, ◌∙◌, subst, slice_index_or}
use Rattle.std.proofs.lemmas.Result.{MatchResult-at_ok}
use Rattle.tcd_plan.specs.PlanData.{PlanData, IsPlan, plan_data}
use Rattle.task_chains.specs.declared.task_lists.Task.{Task}
use Rattle.task_chains.specs.Tasks.{TasksData, AreTasks}
use Rattle.tcd_plan.specs.Cutting.{ranges_outside}
use Rattle.task_chains.specs.Devices.{any_word_device}
use Rattle.task_chains.proofs.ViewPlan.{view_is_plan}
use Rattle.task_chains.proofs.ViewParts.{plan_parts}
use Rattle.task_chains.proofs.views.view_plan.Goals as goal

pub invariant_of-result : goal.invariant_of-result
invariant_of-result c =
    let ok = subst IsPlan c.plan.view_is c.plan.invariant in
    let rom = (MatchResult-at_ok _ _ c.unwrap.result c.unwrap.ensures c.try_from.ensures).0 ∙ c.as_slice.ensures.value ∙ ap (λ (p : PlanData). p.rom) c.plan.view_is in
    let irqs = (MatchResult-at_ok _ _ c.unwrap-2.result c.unwrap-2.ensures c.try_from-2.ensures).0 ∙ c.as_slice-3.ensures.value ∙ ap (λ (p : PlanData). p.irqs) c.plan.view_is in
    let sp = ap (λ (l : List Task). (slice_index_or l c.args.u (record { entry = 0; sp = 0 })).sp) (c.as_slice-2.ensures.value ∙ ap (λ (t : TasksData). t.list) c.tasks.view_is) in
    let at = ap (λ (t : TasksData). t.block) c.tasks.view_is in
    let devices =
    c.view_devices_outside_block.ensures ∙ ap (λ x. c.args.plan.now.devices ++ map any_word_device (ranges_outside x c.block_size.result c.args.plan.now.ram)) at
    ∙ ap (λ k. c.args.plan.now.devices ++ map any_word_device (ranges_outside c.args.tasks.now.block k c.args.plan.now.ram)) c.block_size.ensures in
    let e =
    plan_parts (plan_data c.plan.inside) c.args.plan.now c.args.tasks.now c.args.u c.unwrap.result.items c.new.result.items c.view_devices_outside_block.result.items c.unwrap-2.result.items _ c.are_interrupts_enabled_at_start.result
    c.plan.view_is rom c.new.ensures devices irqs sp c.are_interrupts_enabled_at_start.ensures in
    subst IsPlan (sym e) (view_is_plan ok c.args.tasks.now (subst AreTasks c.tasks.view_is c.tasks.invariant) c.requires.fit c.args.u c.requires.task)
