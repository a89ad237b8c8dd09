use Rattle.std.proofs.Common.{subst}
use Rattle.tcd_plan.specs.PlanData.{plan_data}
use Rattle.task_chains.specs.Tasks.{AreTasks}
use Rattle.task_chains.proofs.ReadingLaws.{denied, not_ram, no_room, on_isp, they_fit}
use Rattle.task_chains.proofs.task_lists.Tasks.error_under_plan.Goals as goal

pub returns-then-not-is_block_in_ram-clause-some : goal.returns-then-not-is_block_in_ram-clause-some
returns-then-not-is_block_in_ram-clause-some c = λ lines.
    not_ram c.args.plan.now c.args.self.now (subst AreTasks c.self.view_is c.self.invariant) lines (denied c.is_block_in_ram.result _ c.if-not-is_block_in_ram.true c.is_block_in_ram.ensures)

pub returns-then-not-has_room_for_views-clause-some : goal.returns-then-not-has_room_for_views-clause-some
returns-then-not-has_room_for_views-clause-some c = λ lines.
    no_room c.args.plan.now c.args.self.now (subst AreTasks c.self.view_is c.self.invariant) lines (c.is_block_in_ram.ensures.0 c.if-not-is_block_in_ram.false)
    (denied c.has_room_for_views.result _ c.if-not-has_room_for_views.true c.has_room_for_views.ensures)

pub returns-then-plan-clause-some : goal.returns-then-plan-clause-some
returns-then-plan-clause-some c = λ lines.
    on_isp c.args.plan.now c.args.self.now (subst AreTasks c.self.view_is c.self.invariant) lines (plan_data c.plan.inside) c.plan.view_is (c.is_block_in_ram.ensures.0 c.if-not-is_block_in_ram.false)
    (c.has_room_for_views.ensures.0 c.if-not-has_room_for_views.false) c.if-plan.true

pub returns-clause-none : goal.returns-clause-none
returns-clause-none c =
    they_fit c.args.plan.now c.args.self.now (subst AreTasks c.self.view_is c.self.invariant) (plan_data c.plan.inside) c.plan.view_is (c.is_block_in_ram.ensures.0 c.if-not-is_block_in_ram.false)
    (c.has_room_for_views.ensures.0 c.if-not-has_room_for_views.false) c.if-plan.false
