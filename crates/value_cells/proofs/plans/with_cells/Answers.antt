use Rattle.std.proofs.Common.{◌++◌, List, map, sym, ap, ◌∙◌, subst}
use Rattle.std.proofs.lemmas.Result.{MatchResult-at_ok}
use Rattle.tcd_plan.specs.PlanData.{PlanData, IsPlan, plan_data}
use Rattle.value_cells.specs.declared.cells.Cell.{Cell}
use Rattle.value_cells.specs.Cells.{ram_without_cells, cell_device}
use Rattle.value_cells.proofs.CellPlan.{IsPlan-with_cells, plan_parts}
use Rattle.value_cells.proofs.plans.with_cells.Goals as goal

pub invariant_of-result : goal.invariant_of-result
invariant_of-result c =
    let ok = subst IsPlan c.plan.view_is c.plan.invariant in
    let rom = (MatchResult-at_ok _ _ c.unwrap.result c.unwrap.ensures c.try_from.ensures).0 ∙ c.as_slice.ensures.value ∙ ap (λ (p : PlanData). p.rom) c.plan.view_is in
    let irqs = (MatchResult-at_ok _ _ c.unwrap-2.result c.unwrap-2.ensures c.try_from-2.ensures).0 ∙ c.as_slice-2.ensures.value ∙ ap (λ (p : PlanData). p.irqs) c.plan.view_is in
    let ram = c.ram_without_cells.ensures ∙ ap (λ (l : List Cell). ram_without_cells l (c.args.plan.now).ram) c.list.ensures in
    let devices = c.devices_with_cells.ensures ∙ ap (λ (l : List Cell). (c.args.plan.now).devices ++ map cell_device l) c.list-2.ensures in
    let e =
    plan_parts (plan_data c.plan.inside) c.args.plan.now c.args.cells.now c.unwrap.result.items c.ram_without_cells.result.items c.devices_with_cells.result.items c.unwrap-2.result.items
    c.plan.view_is rom ram devices irqs in
    subst IsPlan (sym e) (IsPlan-with_cells ok c.args.cells.now c.requires)
